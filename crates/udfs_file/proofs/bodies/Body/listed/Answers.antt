use Rattle.std.proofs.Common.{◌∙◌, false, sym, ap, subst}
use Rattle.udfs_space.specs.Views.{view_by}
use Rattle.udfs_volume.specs.Profiles.{takes_tail}
use Rattle.udfs_lattice.proofs.StoreResults.{retold}
use Rattle.udfs_file.specs.Bodies.{extents_body_by, listed_body}
use Rattle.udfs_file.specs.Stretches.{GivesStretches}
use Rattle.udfs_file.proofs.Tails.{with_tail, without_tail, no_tail}
use Rattle.udfs_file.proofs.bodies.Body.listed.Goals as goal
use Rattle.udfs_file.proofs.bodies.Body.listed.Goals.{then-takes_tail+in_ok-body+in-Err-Fault, else-takes_tail}

pub returns-in-Ok-clause-value : goal.returns-in-Ok-clause-value
returns-in-Ok-clause-value g c told = with_tail (view_by g.B.BlockStore.states c.args.view) c.args.form c.args.reference c.args.size c.args.area.now _
    (sym (c.takes_tail.ensures ∙ ap takes_tail c.profile.ensures) ∙ c.if-takes_tail.true) (rw c.in-Ok.is at (c.in_ok-body.ensures.value told))

pub returns-clause-value : goal.returns-clause-value
returns-clause-value g c = elim c.if-takes_tail.branch [
  | then-takes_tail+in_ok-body+in-Err-Fault w ↦ retold g.B.BlockStore.tells c.walk-2.result (λ t. GivesStretches (view_by g.B.BlockStore.states c.args.view) t (listed_body false (view_by g.B.BlockStore.states c.args.view) c.args.form c.args.reference c.args.size c.args.area.now)) (λ t. GivesStretches (view_by g.B.BlockStore.states c.args.view) t (extents_body_by (view_by g.B.BlockStore.states c.args.view) c.args.form c.args.reference c.args.size c.args.area.now))
      (λ told t. subst (GivesStretches (view_by g.B.BlockStore.states c.args.view) t)
      (sym (without_tail (view_by g.B.BlockStore.states c.args.view) c.args.form c.args.reference c.args.size c.args.area.now _
      (sym (c.takes_tail.ensures ∙ ap takes_tail c.profile.ensures) ∙ w.if-takes_tail.true) (rw w.in-Err-Fault.field-0-is at (rw w.in-Err-Fault.is at (w.in_ok-body.ensures.value told)))))) c.walk-2.ensures.value
  | else-takes_tail w ↦ retold g.B.BlockStore.tells c.walk-2.result (λ t. GivesStretches (view_by g.B.BlockStore.states c.args.view) t (listed_body false (view_by g.B.BlockStore.states c.args.view) c.args.form c.args.reference c.args.size c.args.area.now)) (λ t. GivesStretches (view_by g.B.BlockStore.states c.args.view) t (extents_body_by (view_by g.B.BlockStore.states c.args.view) c.args.form c.args.reference c.args.size c.args.area.now))
      (λ told t. subst (GivesStretches (view_by g.B.BlockStore.states c.args.view) t)
      (sym (no_tail (view_by g.B.BlockStore.states c.args.view) c.args.form c.args.reference c.args.size c.args.area.now
      (sym (c.takes_tail.ensures ∙ ap takes_tail c.profile.ensures) ∙ w.if-takes_tail.false)))) c.walk-2.ensures.value
]
