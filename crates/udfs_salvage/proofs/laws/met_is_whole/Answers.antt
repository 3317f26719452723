use Rattle.udfs_volume.specs.declared.profiles.Profile.TheVariants.{Strict}
use Rattle.udfs_salvage.proofs.Rereading.{met_is_reported as law}
use Rattle.udfs_salvage.proofs.laws.met_is_whole.Goals as goal

pub returns : goal.returns
returns f = record { strict = law Strict; by_profile = law }
