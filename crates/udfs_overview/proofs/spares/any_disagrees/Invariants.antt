use Rattle.std.proofs.Common.{◌≡◌, drop, map}
use Rattle.std.specs.List.{list_any}
use Rattle.udfs_volume.specs.LayoutParts.{partition_now}
use Rattle.udfs_overview.specs.Spares.{partition_disagrees}
use Rattle.udfs_overview.proofs.spares.any_disagrees.Given as goal

-- what is left decides
abbrev pub invariant-loop-partition : goal.invariant-loop-partition
invariant-loop-partition g l =
    let disagrees = partition_disagrees (g.B.BlockStore.states l.blocks) in
    g.B.BlockStore.tells → list_any disagrees (map partition_now (drop l.partition-index l.partitions)) ≡ list_any disagrees (map partition_now l.partitions)
