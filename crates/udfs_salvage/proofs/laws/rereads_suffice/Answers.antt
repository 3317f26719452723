use Rattle.udfs_volume.specs.declared.profiles.Profile.TheVariants.{Strict}
use Rattle.udfs_salvage.proofs.Rereading.{rereads_suffice as law}
use Rattle.udfs_salvage.proofs.laws.rereads_suffice.Goals as goal

pub returns : goal.returns
returns f = record { strict = law Strict; by_profile = law }
