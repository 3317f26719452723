use Rattle.std.proofs.Common.{◌≡◌, ◌++◌, filter, drop}
use Rattle.udfs_witnesses.specs.Witnesses.{is_witness}
use Rattle.udfs_witnesses.proofs.choosing.known_places.Given as goal

abbrev pub invariant-loop-place : goal.invariant-loop-place
invariant-loop-place g l = g.B.BlockStore.tells → l.known.items ++ filter (is_witness (g.B.BlockStore.states l.blocks) l.last) (drop l.place-index l.places) ≡ filter (is_witness (g.B.BlockStore.states l.blocks) l.last) l.places
