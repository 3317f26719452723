use Rattle.udfs_file.proofs.PublicLaws.{partial_file_set as law}
use Rattle.udfs_file.proofs.laws.partial_file_set.Goals as goal

pub returns : goal.returns
returns f = law
