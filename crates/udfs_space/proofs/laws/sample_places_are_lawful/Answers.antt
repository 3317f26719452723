use Rattle.udfs_space.proofs.PublicLaws.{sample_places_are_lawful as law}
use Rattle.udfs_space.proofs.laws.sample_places_are_lawful.Goals as goal

pub returns : goal.returns
returns f = law
