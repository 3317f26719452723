use Rattle.std.proofs.Common.{arith}
use Rattle.udfs_salvage.proofs.JsonVolumes.{two_maps}
use Rattle.udfs_salvage.proofs.json_reports.with_maps.Goals as goal

pub returns-then-partitions-ge2 : goal.returns-then-partitions-ge2
returns-then-partitions-ge2 c = rw (c.in_ok-put.ensures.ok, c.in_ok-maps.ensures) (two_maps c.args.partitions.now _ (omega arith))
