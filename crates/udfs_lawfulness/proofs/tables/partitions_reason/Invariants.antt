use Rattle.std.proofs.Common.{◌≡◌, drop, map}
use Rattle.udfs_volume.specs.LayoutParts.{partition_now}
use Rattle.udfs_lawfulness.specs.Searching.{partitions_reason}
use Rattle.udfs_lawfulness.proofs.tables.partitions_reason.Given as goal

-- what is left decides
abbrev pub invariant-loop-partition : goal.invariant-loop-partition
invariant-loop-partition g l = g.B.BlockStore.tells → partitions_reason (g.B.BlockStore.states l.blocks) (map partition_now (drop l.partition-index l.partitions)) ≡ partitions_reason (g.B.BlockStore.states l.blocks) (map partition_now l.partitions)
