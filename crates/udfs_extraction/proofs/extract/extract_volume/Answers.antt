use Rattle.std.proofs.Common.{inl, refl}
use Rattle.udfs_extraction.proofs.extract.extract_volume.Goals as goal

pub returns-in-Err-clause-why : goal.returns-in-Err-clause-why
returns-in-Err-clause-why g c = inl (refl, refl, inl c.in-Err.ensures.refused)

pub returns-in-Err-clause-no_node : goal.returns-in-Err-clause-no_node
returns-in-Err-clause-no_node g c i is = refl

pub returns-in-Err-clause-spares : goal.returns-in-Err-clause-spares
returns-in-Err-clause-spares g c = inl refl
