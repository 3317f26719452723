use Rattle.udfs_space.proofs.Standing.{placing_law}
use Rattle.udfs_space.proofs.laws.placing_is_a_relation.Goals as goal

pub returns : goal.returns
returns c = placing_law
