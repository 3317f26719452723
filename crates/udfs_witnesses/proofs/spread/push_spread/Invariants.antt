use Rattle.std.proofs.Common.{◌≡◌, ◌++◌, ◌-◌}
use Rattle.udfs_witnesses.specs.Witnesses.{spread, telling_from}
use Rattle.udfs_witnesses.proofs.spread.push_spread.Given as goal

abbrev pub invariant-loop-i : goal.invariant-loop-i
invariant-loop-i g l = g.B.BlockStore.tells → l.places.items ++ telling_from (g.B.BlockStore.states l.blocks) l.last l.i (9 - l.i) ≡ l.fn.places.items ++ spread (g.B.BlockStore.states l.blocks) l.last
