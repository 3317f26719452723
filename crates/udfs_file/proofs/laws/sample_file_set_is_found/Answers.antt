use Rattle.udfs_file.proofs.PublicLaws.{sample_file_set_is_found as law}
use Rattle.udfs_file.proofs.laws.sample_file_set_is_found.Goals as goal

pub returns : goal.returns
returns f = law
