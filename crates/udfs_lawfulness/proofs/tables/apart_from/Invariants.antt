use Rattle.std.proofs.Common.{◌≡◌, drop}
use Rattle.std.specs.Prelude.{find}
use Rattle.udfs_lawfulness.specs.Tables.{differs_from}
use Rattle.udfs_lawfulness.proofs.tables.apart_from.Given as goal

-- what is left decides
abbrev pub invariant-loop-other : goal.invariant-loop-other
invariant-loop-other g l = g.B.BlockStore.tells → find (differs_from (g.B.BlockStore.states l.blocks) l.size l.k l.place) (drop l.other-index l.places) ≡ find (differs_from (g.B.BlockStore.states l.blocks) l.size l.k l.place) l.places
