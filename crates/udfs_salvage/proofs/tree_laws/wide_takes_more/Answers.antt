use Rattle.udfs_salvage.proofs.WideAlone.{wide_takes_more as law}
use Rattle.udfs_salvage.proofs.tree_laws.wide_takes_more.Goals as goal

pub returns : goal.returns
returns c = law
