use Rattle.udfs_volume.specs.declared.profiles.Profile.TheVariants.{Strict}
use Rattle.udfs_salvage.proofs.Openings.{lawful_is_whole as law}
use Rattle.udfs_salvage.proofs.tree_laws.lawful_is_whole.Goals as goal

pub returns : goal.returns
returns c = record { strict = law Strict; by_profile = law }
