use Rattle.udfs_volume.proofs.PublicLaws.{layout_of_lawful, layout_of_lawful_by}
use Rattle.udfs_volume.proofs.laws.layout_of_lawful.Goals as goal

pub returns : goal.returns
returns f = record { strict = layout_of_lawful; by_profile = layout_of_lawful_by }
