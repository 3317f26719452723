use Rattle.std.proofs.Common.{inl, refl}
use Rattle.udfs_reports.proofs.lost_list.list_lost.Goals as goal

pub returns-in-Err-clause-refused : goal.returns-in-Err-clause-refused
returns-in-Err-clause-refused g c = inl (refl, inl c.in-Err.ensures.refused)
