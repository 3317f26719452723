use Rattle.udfs_extraction.proofs.LawLemmas.{lost_trees_are_walked as law}
use Rattle.udfs_extraction.proofs.laws.lost_trees_are_walked.Goals as goal

pub returns : goal.returns
returns c = law
