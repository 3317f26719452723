use Rattle.udfs_lost.proofs.PublicLaws.{bare_names_will_do as law}
use Rattle.udfs_lost.proofs.laws.bare_names_will_do.Goals as goal

pub returns : goal.returns
returns c = law
