use Rattle.udfs_volume.proofs.PublicLaws.{ascending_rises as law}
use Rattle.udfs_volume.proofs.laws.ascending_rises.Goals as goal

pub returns : goal.returns
returns f = law
