use Rattle.udfs_salvage.proofs.Extracting.{if_none}
use Rattle.udfs_salvage.proofs.extraction.write_at_by.Goals as goal

pub returns-in-Ok-None-clause-cells : goal.returns-in-Ok-None-clause-cells
returns-in-Ok-None-clause-cells g c = λ tells cs h. absurd (if_none _ c.in-Ok-None.field-0 c.in-Ok-None.field-0-is (c.in-Ok-None.ensures.value tells) cs h)
