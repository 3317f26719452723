use Rattle.std.proofs.Common.{◌≡◌, ◌++◌, take, map}
use Rattle.std.specs.String.{string_bytes}
use Rattle.udfs_volume.specs.LayoutParts.{partition_now}
use Rattle.udfs_overview.specs.VolumeLines.{kind_texts}
use Rattle.udfs_overview.proofs.volume_lines.push_kinds.Given as goal

-- the kinds so far
abbrev pub invariant-loop-partition : goal.invariant-loop-partition
invariant-loop-partition l = string_bytes l.text ≡ string_bytes l.fn.text ++ kind_texts (map partition_now (take l.partition-index l.partitions))
