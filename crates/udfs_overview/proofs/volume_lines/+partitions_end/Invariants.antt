use Rattle.std.proofs.Common.{length}
use Rattle.udfs_overview.proofs.volume_lines.+partitions_end.Given as goal

abbrev pub decreases-partitions_end : goal.decreases-partitions_end
decreases-partitions_end l = length l.partitions.now
