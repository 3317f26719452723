use Rattle.std.proofs.Common.{◌≡◌, ◌-◌}
use Rattle.udfs_witnesses.specs.Witnesses.{telling_in, first_of, is_telling}
use Rattle.udfs_witnesses.proofs.spread.push_telling.Given as goal

abbrev pub invariant-loop-n : goal.invariant-loop-n
invariant-loop-n g l = (l.places.items ≡ l.fn.places.items) × (g.B.BlockStore.tells → first_of (λ n. is_telling (g.B.BlockStore.states l.blocks n)) l.n (l.n-end - l.n) ≡ telling_in (g.B.BlockStore.states l.blocks) l.last l.i)
