use Rattle.std.proofs.Common.{◌≡◌, rules}
use Rattle.udfs_common.proofs.TakingLemmas.{inputs_refused}
use Rattle.udfs_common.proofs.inputs.take_all.Goals as goal

pub returns-in-Ok-take_sources-clause-by_path : goal.returns-in-Ok-take_sources-clause-by_path
returns-in-Ok-take_sources-clause-by_path g c =
    let same : c.as_mut_slice.result.now ≡ c.in-Ok.sources.items = search rules in
    let t = c.in-Ok-take_sources.ensures.table in
    (t.tables, record { sources = c.in-Ok.sources.items; each = search rules; opened = c.in-Ok.ensures.opened; are = rw (← same) t.are }, t.took)

pub returns-in-Ok-take_sources-clause-one_disc : goal.returns-in-Ok-take_sources-clause-one_disc
returns-in-Ok-take_sources-clause-one_disc g c none unforced =
    let same : c.as_mut_slice.result.now ≡ c.in-Ok.sources.items = search rules in
    let t = c.in-Ok-take_sources.ensures.table in
    record { tables = t.tables; joined = record { sources = c.in-Ok.sources.items; each = search rules; opened = c.in-Ok.ensures.opened; are = rw (← same) t.are }; each = t.each none unforced }

pub returns-clause-blamed : goal.returns-clause-blamed
returns-clause-blamed g c none =
    let same : c.as_mut_slice.result.now ≡ c.in-Ok.sources.items = search rules in
    inputs_refused _ _ _ _ c.args.inputs.now c.in-Ok.sources.items c.as_mut_slice.result.now _ (g.T.Taker.took c.args.taker.now) _ (search rules) c.in-Ok.ensures.opened c.in-Ok.ensures.judged same none c.in-Err-take_sources.ensures.blamed
