use Rattle.udfs_walk.proofs.PublicLaws.{sample_nodes_are_whole as law}
use Rattle.udfs_walk.proofs.laws.sample_nodes_are_whole.Goals as goal

pub returns : goal.returns
returns c = law
