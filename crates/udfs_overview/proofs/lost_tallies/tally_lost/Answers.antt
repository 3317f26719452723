use Rattle.std.proofs.Common.{◌≡◌, ap, option_map}
use Rattle.udfs_lattice.proofs.StoreResults.{retold}
use Rattle.udfs_salvage.specs.Found.{found_now, volume_now}
use Rattle.udfs_salvage.specs.Surveys.{survey_by}
use Rattle.udfs_overview.specs.LostTallies.{IsTallied, IsTallyBy}
use Rattle.udfs_overview.specs.Searched.{looked_in, rootless_now, searched, without_root}
use Rattle.udfs_space.specs.Views.{view_by}
use Rattle.udfs_overview.proofs.LostTallying.{faulty_shut, holes_shut, opened_tally, opened_there, shut_tally, shut_there}
use Rattle.udfs_overview.proofs.lost_tallies.tally_lost.Goals as goal

pub returns-in-Open-clause-tallied : goal.returns-in-Open-clause-tallied
returns-in-Open-clause-tallied g c =
    let s = c.args.survey.now in
    let states = g.B.BlockStore.states in
    retold g.B.BlockStore.tells c.tally_opened.result (λ told. IsTallied (view_by states c.view_by.result) c.deref.result.now told.1.trees.items told.0)
    (λ told. IsTallyBy (searched s.profile (states s.table.now) s.last (survey_by states s)) told.1.trees.items told.0)
    (λ told t a. opened_tally states s (found_now c.in-Open.opened) _ _ t.1.trees.items t.0 (ap volume_now c.in-Open.is) c.view_by.ensures.value c.deref.ensures.value a) c.tally_opened.ensures.tallied

pub returns-in-Holes-clause-tallied : goal.returns-in-Holes-clause-tallied
returns-in-Holes-clause-tallied g c =
    let s = c.args.survey.now in
    let states = g.B.BlockStore.states in
    retold g.B.BlockStore.tells c.tally_rootless.result (λ told. IsTallyBy (without_root s.profile (states s.table.now) s.last) told.1.trees.items told.0)
    (λ told. IsTallyBy (searched s.profile (states s.table.now) s.last (survey_by states s)) told.1.trees.items told.0)
    (λ told t a. shut_tally states s t.1.trees.items t.0 (holes_shut states s _ (ap volume_now c.in-Holes.is)) a) c.tally_rootless.ensures.tallied

pub returns-in-Fault-clause-tallied : goal.returns-in-Fault-clause-tallied
returns-in-Fault-clause-tallied g c =
    let s = c.args.survey.now in
    let states = g.B.BlockStore.states in
    retold g.B.BlockStore.tells c.tally_rootless-in-Fault.result (λ told. IsTallyBy (without_root s.profile (states s.table.now) s.last) told.1.trees.items told.0)
    (λ told. IsTallyBy (searched s.profile (states s.table.now) s.last (survey_by states s)) told.1.trees.items told.0)
    (λ told t a. shut_tally states s t.1.trees.items t.0 (faulty_shut states s _ (ap volume_now c.in-Fault.is)) a) c.tally_rootless-in-Fault.ensures.tallied

pub returns-in-Open-clause-place : goal.returns-in-Open-clause-place
returns-in-Open-clause-place g c =
    let s = c.args.survey.now in
    let states = g.B.BlockStore.states in
    retold g.B.BlockStore.tells c.tally_opened.result (λ told. IsTallied (view_by states c.view_by.result) c.deref.result.now told.1.trees.items told.0)
    (λ told. looked_in (states s.table.now) (survey_by states s) told.1 ≡ searched s.profile (states s.table.now) s.last (survey_by states s))
    (λ told t a. opened_there states s (found_now c.in-Open.opened) t.1 (ap volume_now c.in-Open.is)) c.tally_opened.ensures.tallied

pub returns-in-Holes-clause-place : goal.returns-in-Holes-clause-place
returns-in-Holes-clause-place g c =
    let s = c.args.survey.now in
    let states = g.B.BlockStore.states in
    retold g.B.BlockStore.tells c.tally_rootless.result (λ told. option_map (rootless_now (states s.table.now)) told.1.rootless ≡ without_root s.profile (states s.table.now) s.last)
    (λ told. looked_in (states s.table.now) (survey_by states s) told.1 ≡ searched s.profile (states s.table.now) s.last (survey_by states s))
    (λ told t at. shut_there states s t.1 (holes_shut states s _ (ap volume_now c.in-Holes.is)) at) c.tally_rootless.ensures.place

pub returns-in-Fault-clause-place : goal.returns-in-Fault-clause-place
returns-in-Fault-clause-place g c =
    let s = c.args.survey.now in
    let states = g.B.BlockStore.states in
    retold g.B.BlockStore.tells c.tally_rootless-in-Fault.result (λ told. option_map (rootless_now (states s.table.now)) told.1.rootless ≡ without_root s.profile (states s.table.now) s.last)
    (λ told. looked_in (states s.table.now) (survey_by states s) told.1 ≡ searched s.profile (states s.table.now) s.last (survey_by states s))
    (λ told t at. shut_there states s t.1 (faulty_shut states s _ (ap volume_now c.in-Fault.is)) at) c.tally_rootless-in-Fault.ensures.place
