use Rattle.udfs_volume.proofs.PublicLaws.{strict_sequence as law}
use Rattle.udfs_volume.proofs.laws.strict_sequence.Goals as goal

pub returns : goal.returns
returns f = law
