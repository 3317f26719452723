use Rattle.udfs_space.proofs.Soundness.{sound_space}
use Rattle.udfs_space.proofs.laws.space_is_sound.Goals as goal

pub returns : goal.returns
returns c = sound_space
