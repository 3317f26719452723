use Rattle.udfs_volume.proofs.PublicLaws.{equal_copies_are_lawful, equal_copies_are_lawful_by}
use Rattle.udfs_volume.proofs.laws.equal_copies_are_lawful.Goals as goal

pub returns : goal.returns
returns f = record { strict = equal_copies_are_lawful; by_profile = equal_copies_are_lawful_by }
