use Rattle.std.proofs.Common.{◌≡◌, ◌++◌, map}
use Rattle.udfs_volume.specs.Layout.{partition_of, placed_of}
use Rattle.udfs_volume.specs.LayoutParts.{described_now, partition_now}
use Rattle.udfs_volume.proofs.layouts.partitions.Given as goal

abbrev pub invariant-loop-described : goal.invariant-loop-described
invariant-loop-described l = map partition_now l.made.items ++ map (λ p. placed_of l.profile l.last (partition_of p)) (map described_now l.described-iterator.rest.items) ≡ map (λ p. placed_of l.profile l.last (partition_of p)) (map described_now l.fn.all.items)
