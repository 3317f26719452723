use Rattle.std.proofs.Common.{sym, ◌∙◌}
use Rattle.udfs_salvage.proofs.ChoosingLemmas.{goes_not, goes_rest}
use Rattle.udfs_salvage.proofs.choosing.goes_on.Goals as goal

pub returns-then-not-is_empty : goal.returns-then-not-is_empty
returns-then-not-is_empty c = rw (← c.as_bytes.ensures.value) (rw (← c.as_bytes-2.ensures.value) (goes_rest c.as_bytes-2.result.now c.as_bytes.result.now c.in-Some.rest.now c.in-Some.ensures.cases.0 c.in-Some.ensures.cases.1 (sym c.is_empty.ensures ∙ c.if-not-is_empty.true)))

pub returns-in-None : goal.returns-in-None
returns-in-None c = rw (← c.as_bytes.ensures.value) (rw (← c.as_bytes-2.ensures.value) (goes_not c.as_bytes-2.result.now c.as_bytes.result.now c.in-None.ensures.cases))
