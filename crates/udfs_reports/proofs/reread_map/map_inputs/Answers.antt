use Rattle.std.proofs.Common.{inl, refl}
use Rattle.udfs_common.proofs.PutsLemmas.{unbegun_as}
use Rattle.udfs_reports.proofs.reread_map.map_inputs.Goals as goal

pub returns-in-Err-clause-puts : goal.returns-in-Err-clause-puts
returns-in-Err-clause-puts g c = unbegun_as _ _ _ _ _ g.met.F.Files.only_now

pub returns-in-Err-clause-why : goal.returns-in-Err-clause-why
returns-in-Err-clause-why g c = inl (refl, refl, inl c.in-Err.ensures.refused)
