use Rattle.udfs_space.proofs.PublicLaws.{space_of_lawful, space_of_lawful_by}
use Rattle.udfs_space.proofs.laws.space_of_lawful.Goals as goal

pub returns : goal.returns
returns f = record { strict = space_of_lawful; by_profile = space_of_lawful_by }
