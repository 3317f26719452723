use Rattle.udfs_volume.proofs.PublicLaws.{main_sequence_counts as law}
use Rattle.udfs_volume.proofs.laws.main_sequence_counts.Goals as goal

pub returns : goal.returns
returns f = law
