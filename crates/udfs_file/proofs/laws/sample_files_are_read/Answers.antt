use Rattle.udfs_file.proofs.PublicLaws.{sample_files_are_read as law}
use Rattle.udfs_file.proofs.laws.sample_files_are_read.Goals as goal

pub returns : goal.returns
returns f = law
