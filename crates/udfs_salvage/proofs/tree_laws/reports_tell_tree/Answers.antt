use Rattle.udfs_volume.specs.declared.profiles.Profile.TheVariants.{Strict}
use Rattle.udfs_salvage.proofs.TreeReports.{reports_tell_tree as law}
use Rattle.udfs_salvage.proofs.tree_laws.reports_tell_tree.Goals as goal

pub returns : goal.returns
returns c = record { strict = law Strict; by_profile = law }
