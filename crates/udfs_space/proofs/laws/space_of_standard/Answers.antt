use Rattle.udfs_space.proofs.Counting.{standard_space_law}
use Rattle.udfs_space.proofs.laws.space_of_standard.Goals as goal

pub returns : goal.returns
returns f = standard_space_law
