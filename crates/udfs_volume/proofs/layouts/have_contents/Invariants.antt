use Rattle.std.proofs.Common.{◌≡◌, drop, map}
use Rattle.std.specs.List.{list_all}
use Rattle.udfs_volume.specs.Layout.{has_contents}
use Rattle.udfs_volume.specs.LayoutParts.{described_now}
use Rattle.udfs_volume.proofs.layouts.have_contents.Given as goal

abbrev pub invariant-loop-described : goal.invariant-loop-described
invariant-loop-described l = list_all has_contents (map described_now (drop l.described-index l.all)) ≡ list_all has_contents (map described_now l.all)
