use Rattle.udfs_file.proofs.PublicLaws.{body_is_read as law}
use Rattle.udfs_file.proofs.laws.body_is_read.Goals as goal

pub returns : goal.returns
returns f = law
