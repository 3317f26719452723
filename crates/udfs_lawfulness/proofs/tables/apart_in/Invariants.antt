use Rattle.std.proofs.Common.{◌≡◌, drop}
use Rattle.udfs_lawfulness.specs.Searching.{apart_from, apart_in, first_some}
use Rattle.udfs_lawfulness.proofs.tables.apart_in.Given as goal

-- what is left decides
abbrev pub invariant-loop-place : goal.invariant-loop-place
invariant-loop-place g l = g.B.BlockStore.tells → first_some (apart_from (g.B.BlockStore.states l.blocks) l.size l.k l.places) (drop l.place-index l.places) ≡ apart_in (g.B.BlockStore.states l.blocks) l.size l.places l.k
