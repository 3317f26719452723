use Rattle.std.proofs.Common.{◌≡◌, map}
use Rattle.udfs_volume.specs.Layout.{described}
use Rattle.udfs_volume.specs.LayoutParts.{described_now}
use Rattle.udfs_volume.specs.Parts.{numbered_now}
use Rattle.udfs_volume.specs.Sequences.{sequence_now}
use Rattle.udfs_volume.proofs.Describing.{with_front}
use Rattle.udfs_volume.proofs.layouts.describe.Given as goal

abbrev pub invariant-loop-numbered : goal.invariant-loop-numbered
invariant-loop-numbered l = with_front (map described_now l.all.items) (described (sequence_now l.sequence) (map numbered_now l.numbered-iterator.rest.items)) ≡ described (sequence_now l.sequence) (map numbered_now l.fn.maps.items)
