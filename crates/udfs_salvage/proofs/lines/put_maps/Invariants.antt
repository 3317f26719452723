use Rattle.std.proofs.Common.{map, take}
use Rattle.udfs_volume.specs.LayoutParts.{partition_now}
use Rattle.udfs_salvage.specs.Texts.{map_texts}
use Rattle.udfs_reading.specs.Puts.{Puts}
use Rattle.udfs_salvage.proofs.lines.put_maps.Given as goal

-- what is put so far
abbrev pub invariant-loop-partition : goal.invariant-loop-partition
invariant-loop-partition g l =
    let W = g.W.Sink in
    Puts (W.stream l.fn.sink) (W.stream l.sink) l.fn.out l.out
    (map_texts (take l.partition-index (map partition_now l.partitions)))
