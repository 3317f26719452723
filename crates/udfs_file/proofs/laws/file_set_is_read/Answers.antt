use Rattle.udfs_file.proofs.PublicLaws.{file_set_is_read as law}
use Rattle.udfs_file.proofs.laws.file_set_is_read.Goals as goal

pub returns : goal.returns
returns f = law
