use Rattle.udfs_salvage.proofs.WideVolumes.{wide_takes_strict as law}
use Rattle.udfs_salvage.proofs.tree_laws.wide_takes_strict.Goals as goal

pub returns : goal.returns
returns c = law
