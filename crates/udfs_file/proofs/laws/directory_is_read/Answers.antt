use Rattle.udfs_file.proofs.PublicLaws.{directory_is_read as law}
use Rattle.udfs_file.proofs.laws.directory_is_read.Goals as goal

pub returns : goal.returns
returns f = law
