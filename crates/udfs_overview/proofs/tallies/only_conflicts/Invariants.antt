use Rattle.std.proofs.Common.{◌≡◌, drop}
use Rattle.udfs_overview.specs.Tallies.{only_conflicts}
use Rattle.udfs_overview.proofs.tallies.only_conflicts.Given as goal

-- what is left decides
abbrev pub invariant-loop-block : goal.invariant-loop-block
invariant-loop-block g l =
    let blocks = g.B.BlockStore.states l.blocks in
    g.B.BlockStore.tells → only_conflicts blocks (drop l.block-index l.missing) ≡ only_conflicts blocks l.missing
