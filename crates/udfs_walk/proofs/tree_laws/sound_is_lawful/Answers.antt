use Rattle.udfs_walk.proofs.TreePublicLaws.{sound_is_lawful as law}
use Rattle.udfs_walk.proofs.tree_laws.sound_is_lawful.Goals as goal

pub returns : goal.returns
returns c = law
