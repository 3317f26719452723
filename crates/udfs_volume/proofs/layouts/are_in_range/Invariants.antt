use Rattle.std.proofs.Common.{◌≡◌, drop, map}
use Rattle.std.specs.List.{list_all}
use Rattle.udfs_volume.specs.Layout.{is_in_range, partition_of}
use Rattle.udfs_volume.specs.LayoutParts.{described_now}
use Rattle.udfs_volume.proofs.layouts.are_in_range.Given as goal

abbrev pub invariant-loop-described : goal.invariant-loop-described
invariant-loop-described l = list_all (λ p. is_in_range l.profile l.last (partition_of p)) (map described_now (drop l.described-index l.all)) ≡ list_all (λ p. is_in_range l.profile l.last (partition_of p)) (map described_now l.all)
