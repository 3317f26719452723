use Rattle.udfs_volume.specs.declared.profiles.Profile.TheVariants.{Strict}
use Rattle.udfs_salvage.proofs.Headlines.{one_text as law}
use Rattle.udfs_salvage.proofs.laws.one_text.Goals as goal

pub returns : goal.returns
returns c = record { strict = law Strict; by_profile = law }
