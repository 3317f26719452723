use Rattle.udfs_walk.proofs.Wanted.{met_is_whole as law}
use Rattle.udfs_walk.proofs.known_laws.met_is_whole.Goals as goal

pub returns : goal.returns
returns f = law
