use Rattle.udfs_volume.specs.declared.profiles.Profile.TheVariants.{Strict}
use Rattle.udfs_salvage.proofs.Rereading.{stays_whole as law}
use Rattle.udfs_salvage.proofs.laws.more_stays_whole.Goals as goal

pub returns : goal.returns
returns f = record { strict = law Strict; by_profile = law }
