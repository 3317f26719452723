use Rattle.udfs_lattice.proofs.PublicLaws.{ascending_contains}
use Rattle.udfs_lattice.proofs.laws.ascending_has_the_same_numbers.Goals as goal

pub returns : goal.returns
returns c = ascending_contains
