use Rattle.udfs_volume.specs.declared.profiles.Profile.TheVariants.{Strict}
use Rattle.udfs_salvage.proofs.TreeReports.{one_file_at as law}
use Rattle.udfs_salvage.proofs.tree_laws.one_file_at.Goals as goal

pub returns : goal.returns
returns c = record { strict = law Strict; by_profile = law }
