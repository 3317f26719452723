use Rattle.std.proofs.Common.{inr}
use Rattle.udfs_common.proofs.inputs.unwritten.Goals as goal

pub returns-in-Err-clause-blamed : goal.returns-in-Err-clause-blamed
returns-in-Err-clause-blamed g c = inr c.in-Err.ensures.blamed
