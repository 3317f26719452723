use Rattle.std.proofs.Common.{◌∙◌, ap, get_or, length}
use Rattle.std.proofs.lemmas.Result.{IfOk-weaker}
use Rattle.std.proofs.lemmas.List.FromFn.{length-map-range_with_len}
use Rattle.udfs_page.proofs.Counts.{arcs_by_counts}
use Rattle.udfs_page.proofs.disc_arcs.arcs_in.Goals as goal

pub returns-clause-size : goal.returns-clause-size
returns-clause-size g c =
    let known = c.deref.ensures.value in
    IfOk-weaker c.marks_of.result _ _ (λ r h. ap length h ∙ length-map-range_with_len _ 0 _ ∙ ap length known ∙ c.in_ok-known.ensures.size) c.marks_of.ensures

pub returns-clause-value : goal.returns-clause-value
returns-clause-value g c =
    let known = c.deref.ensures.value in
    let conflicts = c.deref-2.ensures.value in
    let needed = c.deref-3.ensures.value in
    IfOk-weaker c.marks_of.result _ _ (λ r h told. h ∙ arcs_by_counts (g.B.BlockStore.states c.args.store.now) c.args.reread.now c.args.count c.args.blocks c.deref.result.now c.deref-2.result.now c.deref-3.result.now
    (ap length known ∙ c.in_ok-known.ensures.size)
    (λ i l. ap (λ xs. get_or xs i 0) known ∙ c.in_ok-known.ensures.counted told i l)
    (λ i l. ap (λ xs. get_or xs i 0) conflicts ∙ c.in_ok-conflicts.ensures.counted told i l)
    (λ i l. ap (λ xs. get_or xs i 0) needed ∙ c.in_ok-needed.ensures.counted i l)) c.marks_of.ensures
