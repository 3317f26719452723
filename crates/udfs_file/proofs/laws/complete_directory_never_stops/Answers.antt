use Rattle.udfs_file.proofs.PublicLaws.{complete_directory_never_stops as law}
use Rattle.udfs_file.proofs.laws.complete_directory_never_stops.Goals as goal

pub returns : goal.returns
returns f = law
