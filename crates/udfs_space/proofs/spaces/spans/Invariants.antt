use Rattle.std.proofs.Common.{◌≡◌, drop, length, map}
use Rattle.udfs_volume.specs.LayoutParts.{partition_now}
use Rattle.udfs_space.specs.Sparing.{counted, spans}
use Rattle.udfs_space.proofs.Building.{after}
use Rattle.udfs_space.proofs.spaces.spans.Given as goal

abbrev pub invariant-loop-partition : goal.invariant-loop-partition
invariant-loop-partition g l = record {
  value : g.B.BlockStore.tells → after l.spans.items (spans (g.B.BlockStore.states l.blocks) l.last (map (counted l.profile (g.B.BlockStore.states l.blocks)) (map partition_now (drop l.partition-index l.partitions))))
      ≡ spans (g.B.BlockStore.states l.blocks) l.last (map (counted l.profile (g.B.BlockStore.states l.blocks)) (map partition_now l.partitions));
  many : length l.spans.items ≡ l.partition-index;
}
