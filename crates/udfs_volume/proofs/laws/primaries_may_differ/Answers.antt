use Rattle.udfs_volume.proofs.PublicLaws.{primaries_may_differ as law}
use Rattle.udfs_volume.proofs.laws.primaries_may_differ.Goals as goal

pub returns : goal.returns
returns f = law
