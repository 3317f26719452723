use Rattle.std.proofs.Common.{map}
use Rattle.udfs_volume.specs.Layout.{Partition}
use Rattle.udfs_volume.specs.LayoutParts.{partition_now}
use Rattle.udfs_salvage.specs.Texts.{partition_map_text}
use Rattle.udfs_reading.proofs.PrintingPublicLaws.{puts_none}
use Rattle.udfs_salvage.proofs.FullTexts.{full_at, full_length}
use Rattle.udfs_salvage.proofs.Putting.{puts_item}
use Rattle.udfs_salvage.proofs.lines.put_maps.Goals as goal

pub loop-partition-init : goal.loop-partition-init
loop-partition-init g c = puts_none _ _

pub loop-partition-preserved : goal.loop-partition-preserved
loop-partition-preserved g c =
    let ps = c.args.partitions.now in
    let i = c.loop-partition.partition-index in
    puts_item (λ (p : Partition). partition_map_text p.kind) (map partition_now ps) i (partition_now c.partition-item.result) (full_length partition_now ps i c.loop-partition-test.true)
    (full_at partition_now ps i c.partition-item.result c.loop-partition-test.true c.partition-item.is) c.loop-partition.invariant c.put_map.ensures
