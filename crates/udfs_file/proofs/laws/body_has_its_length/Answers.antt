use Rattle.udfs_file.proofs.PublicLaws.{body_has_its_length as law}
use Rattle.udfs_file.proofs.laws.body_has_its_length.Goals as goal

pub returns : goal.returns
returns f = law
