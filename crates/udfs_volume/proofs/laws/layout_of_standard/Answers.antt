use Rattle.udfs_volume.proofs.PublicLaws.{layout_of_standard, layout_of_standard_by}
use Rattle.udfs_volume.proofs.laws.layout_of_standard.Goals as goal

pub returns : goal.returns
returns f = record { strict = layout_of_standard; by_profile = layout_of_standard_by }
