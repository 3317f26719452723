use Rattle.std.proofs.Common.{◌≡◌, ◌-◌}
use Rattle.std.specs.List.{list_any, range_with_len}
use Rattle.udfs_volume.specs.Layout.{blocks_in}
use Rattle.udfs_overview.specs.Spares.{differ_in}
use Rattle.udfs_overview.proofs.spares.copies_disagree.Given as goal

-- what is left decides
abbrev pub invariant-loop-k : goal.invariant-loop-k
invariant-loop-k g l =
    let differ = differ_in (g.B.BlockStore.states l.blocks) l.map.size l.map.tables.items in
    g.B.BlockStore.tells → list_any differ (range_with_len l.k (blocks_in l.map.size - l.k)) ≡ list_any differ (range_with_len 0 (blocks_in l.map.size))
