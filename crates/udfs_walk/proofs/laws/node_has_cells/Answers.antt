use Rattle.udfs_walk.proofs.PublicLaws.{node_has_cells as law}
use Rattle.udfs_walk.proofs.laws.node_has_cells.Goals as goal

pub returns : goal.returns
returns c = law
