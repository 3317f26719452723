use Rattle.std.proofs.Common.{◌≡◌, rules, refl, sym, subst, ◌∙◌, Ok, Err}
use Rattle.udfs_lattice.specs.Tables.{Table, join_tables}
use Rattle.udfs_lattice.specs.TableLaws.{join_tables-empty}
use Rattle.udfs_lattice.specs.Records.{join_all}
use Rattle.udfs_reading.specs.Inputs.{inputs}
use Rattle.udfs_reading.proofs.GainLemmas.{gained, gains_none, gains_then}
use Rattle.udfs_reading.proofs.Outcomes.{inputs_laws}
use Rattle.udfs_reading.proofs.Public.{public_table, public_fault, public_faulty, public_io, public_cut}
use Rattle.udfs_reading.proofs.SoFar.{so_far_none, so_far_more, so_far_fails, so_far_all}
use Rattle.udfs_reading.proofs.inputs.take_each.Goals as goal

pub loop-index-init : goal.loop-index-init
loop-index-init g c = record { so_far = gains_none (so_far_none _ _ _) (λ t h. h); empty = c.new-window.ensures.bytes }

pub take_input-requires : goal.take_input-requires
take_input-requires g c = c.loop-index.invariant.empty

pub loop-index-preserved : goal.loop-index-preserved
loop-index-preserved g c =
    let R = g.R.Source in
    let x = c.index-inputs-index.result in
    let new = c.take_input.new.source in
    record {
      so_far = gains_then (λ s t u so_far joins. so_far_more R.remaining R.faults _ _ _ s t new x joins.table u so_far (search rules)
          (public_table inputs inputs_laws _ _ (R.faults new) (R.faults new) (Ok joins.table) (joins.reads, refl)) c.in-Ok.ensures.count joins.joined) c.loop-index.invariant.so_far c.in-Ok.ensures.ok;
      empty = c.in-Ok.ensures.empty;
    }

pub returns-in-Err-clause-fails : goal.returns-in-Err-clause-fails
returns-in-Err-clause-fails g c =
    let R = g.R.Source in
    let x = c.index-inputs-index.result in
    let new = c.take_input.new.source in
    let e = c.in-Err.error in
    so_far_fails R.remaining R.faults _ _ _ _ _ new x e (gained c.loop-index.invariant.so_far) (search rules)
    (public_io inputs _ _ _ _ (Err e) c.in-Err.ensures.err)
    (public_fault inputs inputs_laws _ _ _ _ (Err e) c.in-Err.ensures.err)
    (public_faulty inputs inputs_laws _ _ _ _ (Err e) c.in-Err.ensures.err)
    (public_cut inputs _ _ _ _ (Err e) c.in-Err.ensures.err)

pub returns-clause-table : goal.returns-clause-table
returns-clause-table g c =
    let so_far = c.loop-index.invariant.so_far in
    let all = (so_far_all g.R.Source.remaining g.R.Source.faults _ _ _ _ _ (gained so_far) (search rules)).0 in
    let read : so_far.read ≡ join_all all.0 = sym (join_tables-empty so_far.read) ∙ all.2 ∙ join_tables-empty (join_all all.0) in
    (all.0, all.1, λ t h. subst (λ (r : Table). g.T.Taker.took c.loop-index.taker (join_tables t r)) read (so_far.took t h))

pub returns-clause-counts : goal.returns-clause-counts
returns-clause-counts g c = (so_far_all g.R.Source.remaining g.R.Source.faults _ _ _ _ _ (gained c.loop-index.invariant.so_far) (search rules)).1
