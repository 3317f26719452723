use Rattle.std.proofs.Common.{◌≡◌, ◌++◌, drop, map}
use Rattle.udfs_volume.specs.LayoutParts.{partition_now}
use Rattle.udfs_lawfulness.specs.Tables.{table_blocks}
use Rattle.udfs_lawfulness.proofs.tables.push_tables.Given as goal

-- the numbers so far with those of the partitions that are left are all
abbrev pub invariant-loop-partition : goal.invariant-loop-partition
invariant-loop-partition l = l.numbers.items ++ table_blocks (map partition_now (drop l.partition-index l.partitions)) ≡ l.fn.numbers.items ++ table_blocks (map partition_now l.partitions)
