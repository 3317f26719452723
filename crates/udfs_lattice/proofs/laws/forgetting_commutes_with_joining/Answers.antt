use Rattle.udfs_lattice.proofs.JoinLaws.{forgetting_commutes}
use Rattle.udfs_lattice.proofs.Forgetting.{forgetting_all_commutes, settling_commutes, named_are_contained}
use Rattle.udfs_lattice.proofs.laws.forgetting_commutes_with_joining.Goals as goal

pub returns-clause-one : goal.returns-clause-one
returns-clause-one c = forgetting_commutes

pub returns-clause-several : goal.returns-clause-several
returns-clause-several c = forgetting_all_commutes

pub returns-clause-conflicts : goal.returns-clause-conflicts
returns-clause-conflicts c = settling_commutes

pub returns-clause-named : goal.returns-clause-named
returns-clause-named c = named_are_contained
