use Rattle.std.proofs.Common.{◌≡◌, drop}
use Rattle.std.specs.List.{list_any}
use Rattle.udfs_overview.specs.Spares.{differs_from}
use Rattle.udfs_overview.proofs.spares.differs_from_any.Given as goal

-- what is left decides
abbrev pub invariant-loop-other : goal.invariant-loop-other
invariant-loop-other g l =
    let differs = differs_from (g.B.BlockStore.states l.blocks) l.size l.k l.place in
    g.B.BlockStore.tells → list_any differs (drop l.other-index l.places) ≡ list_any differs l.places
