use Rattle.std.proofs.Common.{inl, inr, refl, rules}
use Rattle.udfs_tables.proofs.forget.read_list.Goals as goal

pub returns-in-Err-Io-clause-why : goal.returns-in-Err-Io-clause-why
returns-in-Err-Io-clause-why g c = inr (inr (inl (refl, (_, _, c.in-Err-Io.ensures.io.0 (search rules)))))
