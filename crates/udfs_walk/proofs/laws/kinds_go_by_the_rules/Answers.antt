use Rattle.udfs_walk.proofs.KindLemmas.{kinds_by_rules}
use Rattle.udfs_walk.proofs.laws.kinds_go_by_the_rules.Goals as goal

pub returns : goal.returns
returns c = kinds_by_rules
