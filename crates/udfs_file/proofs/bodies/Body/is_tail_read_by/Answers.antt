use Rattle.std.proofs.Common.{◌≡◌, ◌∙◌, sym, ap, ◌&&◌, false, not, true}
use Rattle.udfs_lattice.proofs.StoreResults.{retold}
use Rattle.udfs_volume.specs.Profiles.{takes_tail}
use Rattle.udfs_space.specs.Views.{view_by}
use Rattle.udfs_file.specs.Bodies.{listed_body}
use Rattle.udfs_file.specs.Entries.{entry_of}
use Rattle.udfs_file.specs.TailBodies.{has_cells, is_tail_read}
use Rattle.udfs_file.proofs.TailNeeds.{embedded_none, needs, untaken_none}
use Rattle.udfs_file.proofs.bodies.Body.is_tail_read_by.Goals as goal
use Rattle.udfs_file.proofs.bodies.Body.is_tail_read_by.Goals.{then-form-eq3-via-then-form-eq3, then-form-eq3-via-else-form-eq3+then-not-takes_tail}

pub returns-then-form-eq3-clause-value : goal.returns-then-form-eq3-clause-value
returns-then-form-eq3-clause-value g c told = elim c.then-form-eq3.branch [
  | then-form-eq3-via-then-form-eq3 w ↦ embedded_none (view_by g.B.BlockStore.states c.args.view) c.args.reference c.args.b (entry_of c.args.entry.now) (sym c.form.ensures ∙ w.if-form-eq3.true)
  | then-form-eq3-via-else-form-eq3+then-not-takes_tail w ↦ untaken_none (view_by g.B.BlockStore.states c.args.view) c.args.reference c.args.b (entry_of c.args.entry.now)
      (sym (w.takes_tail.ensures ∙ ap takes_tail w.profile.ensures) ∙ w.if-not-takes_tail.true)
]

pub returns-clause-value : goal.returns-clause-value
returns-clause-value g c =
    let v = view_by g.B.BlockStore.states c.args.view in
    retold g.B.BlockStore.tells c.needs_tail.result (λ t. t ≡ (has_cells (listed_body true v c.form-2.result c.args.reference c.size.result c.area.result.now)
    && not (has_cells (listed_body false v c.form-2.result c.args.reference c.size.result c.area.result.now))))
    (λ t. t ≡ is_tail_read v c.args.reference c.args.b (entry_of c.args.entry.now))
    (λ told t e. e ∙ (λ i. has_cells (listed_body true v (c.form-2.ensures i) c.args.reference (c.size.ensures i) (c.area.ensures.value i))
    && not (has_cells (listed_body false v (c.form-2.ensures i) c.args.reference (c.size.ensures i) (c.area.ensures.value i))))
    ∙ needs v c.args.reference c.args.b (entry_of c.args.entry.now) (λ z. c.if-form-eq3.false (c.form.ensures ∙ z))
    (sym (c.takes_tail.ensures ∙ ap takes_tail c.profile.ensures) ∙ c.if-not-takes_tail.false)) c.needs_tail.ensures.value
