use Rattle.std.proofs.Common.{refl}
use Rattle.udfs_volume.specs.Sequence.{anchor, sequence_by}
use Rattle.udfs_volume.specs.Layout.{layout_by, main_layout_by}
use Rattle.udfs_volume.proofs.laws.layout_of_nothing.Goals as goal

pub returns : goal.returns
unfolding anchor sequence_by main_layout_by layout_by
returns c last = refl
