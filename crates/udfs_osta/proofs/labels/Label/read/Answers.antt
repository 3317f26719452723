use Rattle.std.proofs.Common.{ap, arith}
use Rattle.std.specs.Prelude.{Err}
use Rattle.udfs_osta.proofs.LabelNames.{IsNamed-label_of}
use Rattle.udfs_osta.proofs.labels.Label.read.Goals as goal

pub returns-in-Err-OutOfMemory-clause-memory : goal.returns-in-Err-OutOfMemory-clause-memory
returns-in-Err-OutOfMemory-clause-memory c =
    IsNamed-label_of c.args.bytes.now (omega arith) (omega arith)
    (c.in-Err-OutOfMemory.ensures.memory (ap Err c.in-Err-OutOfMemory.field-0-is))
