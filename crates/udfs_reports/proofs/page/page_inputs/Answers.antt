use Rattle.std.proofs.Common.{inl, refl}
use Rattle.udfs_reports.proofs.page.page_inputs.Goals as goal

pub returns-in-Err-clause-why : goal.returns-in-Err-clause-why
returns-in-Err-clause-why g c = inl (refl, c.in-Err.ensures.refused)
