use Rattle.udfs_volume.specs.declared.profiles.Profile.TheVariants.{Strict}
use Rattle.udfs_salvage.proofs.Headlines.{reports_keep_it as law}
use Rattle.udfs_salvage.proofs.laws.reports_keep_it.Goals as goal

pub returns : goal.returns
returns c = record { strict = law Strict; by_profile = law }
