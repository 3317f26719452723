use Rattle.std.proofs.Common.{◌≡◌, map, drop}
use Rattle.udfs_volume.specs.LayoutParts.{partition_now}
use Rattle.udfs_salvage.specs.JsonReports.{packet_length_of}
use Rattle.udfs_salvage.proofs.json_reports.packet_of.Given as goal

-- what is left decides
abbrev pub invariant-loop-partition : goal.invariant-loop-partition
invariant-loop-partition l = packet_length_of (map partition_now (drop l.partition-index l.partitions)) ≡ packet_length_of (map partition_now l.partitions)
