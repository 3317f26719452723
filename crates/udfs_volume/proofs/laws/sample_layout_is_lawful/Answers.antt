use Rattle.udfs_volume.proofs.PublicLaws.{sample_layout_is_lawful as law}
use Rattle.udfs_volume.proofs.laws.sample_layout_is_lawful.Goals as goal

pub returns : goal.returns
returns f = law
