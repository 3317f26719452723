use Rattle.udfs_page.proofs.Nesting.{nested}
use Rattle.udfs_page.proofs.trees.folders_nest.Goals as goal

pub returns : goal.returns
returns c = λ nodes k h e. nested nodes k h e
