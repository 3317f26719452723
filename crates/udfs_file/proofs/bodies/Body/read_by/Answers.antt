use Rattle.std.proofs.Common.{◌≡◌, ◌⊎◌, ◌<◌, ◌≤◌, ◌∙◌, sym, ap, subst, inr, length, List, not, is_ok}
use Rattle.udfs_space.specs.Places.{View}
use Rattle.udfs_space.specs.Views.{view_by}
use Rattle.udfs_file.specs.Entries.{entry_of, area_start}
use Rattle.udfs_lattice.proofs.StoreResults.{if_ok, retold}
use Rattle.udfs_file.specs.Bodies.{body, extents_body_by}
use Rattle.udfs_file.specs.Stretches.{GivesStretches, cells_of}
use Rattle.udfs_file.specs.declared.stretches.Stretch.{Stretch}
use Rattle.udfs_file.specs.Told.{TellsBody}
use Rattle.std.specs.Prelude.{IfOk, Ok, Err}
use Rattle.udfs_file.specs.declared.faults.NodeFault.TheVariants.{Short}
use Rattle.udfs_file.specs.declared.faults.WalkError.TheVariants.{Fault, OutOfMemory}
use Rattle.udfs_file.specs.declared.stretches.Stretch.TheVariants.{Recorded}
use Rattle.udfs_file.proofs.EmbeddedLemmas.{embedded_lies, body-by, body-short, body-recorded, pushed_alone}
use Rattle.udfs_file.proofs.Telling.{tells_body}
use Rattle.udfs_file.proofs.WalkLemmas.{count_one}
use Rattle.udfs_file.proofs.bodies.Body.read_by.Goals as goal

pub returns-then-form-ne3-clause-value : goal.returns-then-form-ne3-clause-value
returns-then-form-ne3-clause-value g c =
    retold g.B.BlockStore.tells c.listed.result (λ t. GivesStretches (view_by g.B.BlockStore.states c.args.view) t (extents_body_by (view_by g.B.BlockStore.states c.args.view) c.form-then-form-ne3.result c.args.reference c.size.result c.area.result.now)) (λ t. GivesStretches (view_by g.B.BlockStore.states c.args.view) t (body (view_by g.B.BlockStore.states c.args.view) c.args.reference c.args.b (entry_of c.args.entry.now)))
    (λ told t. subst (GivesStretches (view_by g.B.BlockStore.states c.args.view) t)
    (body-by (view_by g.B.BlockStore.states c.args.view) c.args.reference c.args.b c.args.entry.now c.form-then-form-ne3.result c.size.result c.area.result.now
    c.form-then-form-ne3.ensures c.size.ensures c.area.ensures.value (λ z. c.if-form-ne3.true (c.form.ensures ∙ sym c.form-then-form-ne3.ensures ∙ z))))
    c.listed.ensures.value

pub returns-then-form-ne3-clause-complete : goal.returns-then-form-ne3-clause-complete
returns-then-form-ne3-clause-complete g c =
    retold g.B.BlockStore.tells c.listed.result (λ t. GivesStretches (view_by g.B.BlockStore.states c.args.view) t (body (view_by g.B.BlockStore.states c.args.view) c.args.reference c.args.b (entry_of c.args.entry.now))) (TellsBody (view_by g.B.BlockStore.states c.args.view) c.args.reference c.args.b (entry_of c.args.entry.now))
    (λ told t. tells_body (view_by g.B.BlockStore.states c.args.view) c.args.reference c.args.b (entry_of c.args.entry.now) t) (returns-then-form-ne3-clause-value g c)

pub returns-then-form-ne3-clause-size : goal.returns-then-form-ne3-clause-size
returns-then-form-ne3-clause-size g c = subst (λ n. IfOk c.listed.result (λ told. IfOk told (λ body. (v : View) → length (cells_of v body) ≡ n))) c.size.ensures c.listed.ensures.size

pub returns-then-form-ne3-clause-memory : goal.returns-then-form-ne3-clause-memory
returns-then-form-ne3-clause-memory g c = if_ok c.listed.result (λ t. t ≡ Err OutOfMemory → 0 < c.size.result) (λ t. t ≡ Err OutOfMemory → ((entry_of c.args.entry.now).form ≡ 3) ⊎ (0 < (entry_of c.args.entry.now).size))
    (λ t m e. inr (subst (λ n. 0 < n) c.size.ensures (m e))) c.listed.ensures.memory

pub returns-then-size-area-clause-value : goal.returns-then-size-area-clause-value
returns-then-size-area-clause-value g c told =
    let short : length (entry_of c.args.entry.now).area < (entry_of c.args.entry.now).size = rw (← c.area-2.ensures.value, ← c.size-size.ensures) c.if-size-area.true in
    body-short (view_by g.B.BlockStore.states c.args.view) c.args.reference c.args.b c.args.entry.now (sym c.form.ensures ∙ c.if-form-ne3.false) short

pub returns-then-size-area-clause-complete : goal.returns-then-size-area-clause-complete
returns-then-size-area-clause-complete g c told = tells_body (view_by g.B.BlockStore.states c.args.view) c.args.reference c.args.b (entry_of c.args.entry.now) (Err (Fault Short)) (returns-then-size-area-clause-value g c told)

pub invariant_of-result : goal.invariant_of-result
invariant_of-result g c =
    let enough : (entry_of c.args.entry.now).size ≤ length (entry_of c.args.entry.now).area = rw (← c.area-2.ensures.value, ← c.size-size.ensures) c.if-size-area.false in
    embedded_lies c.args.reference c.args.b c.args.entry.now c.push.new.self.items c.start.ensures.fits enough
    (pushed_alone c.new-stretches.result.items c.push.new.self.items (Recorded (record { address = record { block = c.args.b; reference = c.args.reference }; offset = c.start.result }) c.size-size.result)
    (Recorded (record { address = record { block = c.args.b; reference = c.args.reference }; offset = area_start c.args.entry.now }) (entry_of c.args.entry.now).size)
    (is_ok c.push.result) c.new-stretches.ensures.items c.push.ensures.items (c.is_err.ensures.negation ∙ ap not c.if-is_err.false)
    (ap (λ o. Recorded (record { address = record { block = c.args.b; reference = c.args.reference }; offset = o }) c.size-size.result) c.start.ensures.value
    ∙ ap (λ n. Recorded (record { address = record { block = c.args.b; reference = c.args.reference }; offset = area_start c.args.entry.now }) n) c.size-size.ensures))

pub returns-clause-value : goal.returns-clause-value
returns-clause-value g c told =
    let enough : (entry_of c.args.entry.now).size ≤ length (entry_of c.args.entry.now).area = rw (← c.area-2.ensures.value, ← c.size-size.ensures) c.if-size-area.false in
    body-recorded (view_by g.B.BlockStore.states c.args.view) c.args.reference c.args.b (c.requires told).0 c.args.entry.now c.push.new.self.items
    (sym c.form.ensures ∙ c.if-form-ne3.false) (c.requires told).1 c.start.ensures.whole c.start.ensures.fits enough
    (pushed_alone c.new-stretches.result.items c.push.new.self.items (Recorded (record { address = record { block = c.args.b; reference = c.args.reference }; offset = c.start.result }) c.size-size.result)
    (Recorded (record { address = record { block = c.args.b; reference = c.args.reference }; offset = area_start c.args.entry.now }) (entry_of c.args.entry.now).size)
    (is_ok c.push.result) c.new-stretches.ensures.items c.push.ensures.items (c.is_err.ensures.negation ∙ ap not c.if-is_err.false)
    (ap (λ o. Recorded (record { address = record { block = c.args.b; reference = c.args.reference }; offset = o }) c.size-size.result) c.start.ensures.value
    ∙ ap (λ n. Recorded (record { address = record { block = c.args.b; reference = c.args.reference }; offset = area_start c.args.entry.now }) n) c.size-size.ensures))

pub returns-clause-complete : goal.returns-clause-complete
returns-clause-complete g c told = tells_body (view_by g.B.BlockStore.states c.args.view) c.args.reference c.args.b (entry_of c.args.entry.now) (Ok c.push.new.self.items) (returns-clause-value g c told)

pub returns-clause-size : goal.returns-clause-size
returns-clause-size g c v = ap (λ (ss : List Stretch). length (cells_of v ss))
    (pushed_alone c.new-stretches.result.items c.push.new.self.items (Recorded (record { address = record { block = c.args.b; reference = c.args.reference }; offset = c.start.result }) c.size-size.result)
    (Recorded (record { address = record { block = c.args.b; reference = c.args.reference }; offset = area_start c.args.entry.now }) (entry_of c.args.entry.now).size)
    (is_ok c.push.result) c.new-stretches.ensures.items c.push.ensures.items (c.is_err.ensures.negation ∙ ap not c.if-is_err.false)
    (ap (λ o. Recorded (record { address = record { block = c.args.b; reference = c.args.reference }; offset = o }) c.size-size.result) c.start.ensures.value
    ∙ ap (λ n. Recorded (record { address = record { block = c.args.b; reference = c.args.reference }; offset = area_start c.args.entry.now }) n) c.size-size.ensures))
    ∙ count_one v (Recorded (record { address = record { block = c.args.b; reference = c.args.reference }; offset = area_start c.args.entry.now }) (entry_of c.args.entry.now).size)
