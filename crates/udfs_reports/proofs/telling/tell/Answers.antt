use Rattle.std.proofs.Common.{inl, refl}
use Rattle.udfs_reports.proofs.telling.tell.Goals as goal

pub returns-in-Err-clause-refused : goal.returns-in-Err-clause-refused
returns-in-Err-clause-refused g c = inl (refl, inl c.in-Err.ensures.refused)
