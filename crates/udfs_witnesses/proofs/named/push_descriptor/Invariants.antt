use Rattle.std.proofs.Common.{◌≡◌, ◌-◌}
use Rattle.udfs_witnesses.specs.Witnesses.{descriptor_from, first_of, is_descriptor}
use Rattle.udfs_witnesses.proofs.named.push_descriptor.Given as goal

abbrev pub invariant-loop-n : goal.invariant-loop-n
invariant-loop-n g l = (l.places.items ≡ l.fn.places.items) × (g.B.BlockStore.tells → first_of (λ n. is_descriptor l.identifier n (g.B.BlockStore.states l.blocks n)) l.n (l.n-end - l.n) ≡ descriptor_from (g.B.BlockStore.states l.blocks) l.first l.identifier)
