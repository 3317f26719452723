use Rattle.udfs_file.proofs.PublicLaws.{found_names_are_there as law}
use Rattle.udfs_file.proofs.laws.found_names_are_there.Goals as goal

pub returns : goal.returns
returns f = law
