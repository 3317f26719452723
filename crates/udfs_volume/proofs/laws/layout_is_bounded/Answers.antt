use Rattle.udfs_volume.proofs.Bounds.{layout_bounds}
use Rattle.udfs_volume.proofs.PublicLaws.{layout_is_bounded, layout_is_bounded_by}
use Rattle.udfs_volume.proofs.laws.layout_is_bounded.Goals as goal

pub returns : goal.returns
returns f = record { of_descriptors = layout_bounds; of_table = layout_is_bounded; by_profile = layout_is_bounded_by }
