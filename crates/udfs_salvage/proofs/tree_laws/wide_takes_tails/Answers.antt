use Rattle.udfs_salvage.proofs.TailSample.{wide_takes_tails as law}
use Rattle.udfs_salvage.proofs.tree_laws.wide_takes_tails.Goals as goal

pub returns : goal.returns
returns c = law
