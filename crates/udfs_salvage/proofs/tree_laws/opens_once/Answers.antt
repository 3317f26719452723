use Rattle.udfs_volume.specs.declared.profiles.Profile.TheVariants.{Strict}
use Rattle.udfs_salvage.proofs.TreeReports.{opens_once as law}
use Rattle.udfs_salvage.proofs.tree_laws.opens_once.Goals as goal

pub returns : goal.returns
returns c = record { strict = law Strict; by_profile = law }
