use Rattle.std.proofs.Common.{◌≡◌, drop}
use Rattle.std.specs.List.{list_any}
use Rattle.udfs_overview.specs.Spares.{differ_in, differs_from}
use Rattle.udfs_overview.proofs.spares.differ_in.Given as goal

-- what is left decides
abbrev pub invariant-loop-place : goal.invariant-loop-place
invariant-loop-place g l =
    let blocks = g.B.BlockStore.states l.blocks in
    g.B.BlockStore.tells → list_any (λ a. list_any (differs_from blocks l.size l.k a) l.places) (drop l.place-index l.places) ≡ differ_in blocks l.size l.places l.k
