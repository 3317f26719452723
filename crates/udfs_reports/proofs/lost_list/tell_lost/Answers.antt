use Rattle.std.proofs.Common.{◌≡◌, ◌∙◌, ap, inl, inr, refl, rules, subst}
use Rattle.udfs_reading.specs.Writing.{Wrote}
use Rattle.udfs_salvage.specs.Printing.{Stopped}
use Rattle.udfs_salvage.specs.StorePrinting.{leaves_as}
use Rattle.udfs_salvage.specs.declared.errors.PrintError.TheVariants.{Unread}
use Rattle.udfs_salvage.specs.Surveys.{survey_by}
use Rattle.udfs_salvage.proofs.StoreAnswers.{states_same}
use Rattle.udfs_overview.specs.FullLists.{full_list}
use Rattle.udfs_overview.specs.LostTrees.{AreLostBy, IsUnfoundBy}
use Rattle.udfs_overview.specs.Searched.{searched, searched_of}
use Rattle.udfs_walk.specs.declared.answers.NodesError.TheVariants.{OutOfMemory, TooManyPaths}
use Rattle.udfs_remarks.specs.NoReports.{salvage_refusal_of}
use Rattle.udfs_reports.specs.LostListing.{place}
use Rattle.udfs_reports.proofs.LostTexts.{lost_begun, lost_out, lost_stopped, lost_told}
use Rattle.udfs_reports.proofs.lost_list.tell_lost.Goals as goal

pub returns-in-Err-Salvage-clause-refused : goal.returns-in-Err-Salvage-clause-refused
returns-in-Err-Salvage-clause-refused g c told t holds =
    let same : c.refused_report.result ≡ salvage_refusal_of c.in-Err-Salvage.error = search rules in
    let refused = rw c.in-Err-Salvage.field-0-is at (c.in-Err-Salvage.ensures.refused told t holds) in
    inl (refl, inl (rw same refused))

pub returns-in-Err-Unread-clause-begun : goal.returns-in-Err-Unread-clause-begun
returns-in-Err-Unread-clause-begun g c told t holds = inl refl

pub returns-in-Err-TooManyPaths-clause-refused : goal.returns-in-Err-TooManyPaths-clause-refused
returns-in-Err-TooManyPaths-clause-refused g c told t holds =
    let S = g.B.BlockStore.states in
    let s = c.in-Ok.survey in
    let of = c.in-Ok.ensures.of in
    let same = ap S of.0 ∙ states_same (S c.args.blocks.now) t (g.met.B.ReportStore.held c.args.blocks.now t holds) in
    inl (
      refl,
      inr (record {
        report = survey_by S s;
        is_report = (c.in-Ok.ensures.headline told t holds).report_is;
        error = TooManyPaths;
        because = subst (λ o. IsUnfoundBy c.args.request.now.deleted o TooManyPaths) (λ i. searched (of.2 i) (same i) (of.1 i) (survey_by S s)) (rw c.in-Err-TooManyPaths.field-0-is at (c.in-Err-TooManyPaths.ensures.refused told));
        told = c.refused_lost.ensures;
      }),
    )

pub returns-in-Err-OutOfMemory-clause-refused : goal.returns-in-Err-OutOfMemory-clause-refused
returns-in-Err-OutOfMemory-clause-refused g c told t holds = inl (refl, inl (inl c.refused_lost-in-Err-OutOfMemory.ensures))

pub returns-in-Err-Unread-find_lost-clause-begun : goal.returns-in-Err-Unread-find_lost-clause-begun
returns-in-Err-Unread-find_lost-clause-begun g c told t holds = inl refl

pub returns-in-Err-Run-clause-refused : goal.returns-in-Err-Run-clause-refused
returns-in-Err-Run-clause-refused g c told t holds =
    let S = g.B.BlockStore.states in
    let O = g.O.Sink in
    let s = c.in-Ok.survey in
    let of = c.in-Ok.ensures.of in
    let same = ap S of.0 ∙ states_same (S c.args.blocks.now) t (g.met.B.ReportStore.held c.args.blocks.now t holds) in
    let lost = c.in-Ok-find_lost.ensures.found told in
    let trees = c.in-Ok-find_lost.lost.trees.items in
    let where_is : searched_of S s ≡ place c.args.request.now.volume.profile t c.args.last (survey_by S s) = λ i. searched (of.2 i) (same i) (of.1 i) (survey_by S s) in
    lost_stopped c.args.form c.args.request.now.deleted _ _ t (survey_by S s) _ (O.stream c.write_lost.new.sink) (c.in-Ok.ensures.headline told t holds) trees
    (subst (λ o. AreLostBy c.args.request.now.deleted o trees) where_is lost.trees) c.in-Err-Run.error _
    (subst (λ text. Stopped (O.stream c.args.out.now) (O.stream c.write_lost.new.sink) text c.in-Err-Run.error) (λ i. full_list c.args.form c.args.request.now.deleted (same i) ((lost.place ∙ where_is) i) (survey_by S s) trees)
    (rw c.in-Err-Run.field-0-is at (c.in-Err-Run.ensures.printed told))) (search rules)

pub returns-in-Err-Unread-write_lost-clause-begun : goal.returns-in-Err-Unread-write_lost-clause-begun
returns-in-Err-Unread-write_lost-clause-begun g c told t holds =
    let S = g.B.BlockStore.states in
    let O = g.O.Sink in
    let s = c.in-Ok.survey in
    let of = c.in-Ok.ensures.of in
    let same = ap S of.0 ∙ states_same (S c.args.blocks.now) t (g.met.B.ReportStore.held c.args.blocks.now t holds) in
    let lost = c.in-Ok-find_lost.ensures.found told in
    let trees = c.in-Ok-find_lost.lost.trees.items in
    let where_is : searched_of S s ≡ place c.args.request.now.volume.profile t c.args.last (survey_by S s) = λ i. searched (of.2 i) (same i) (of.1 i) (survey_by S s) in
    lost_begun c.args.form c.args.request.now.deleted _ _ t (survey_by S s) _ (O.stream c.write_lost.new.sink) (c.in-Ok.ensures.headline told t holds) trees
    (subst (λ o. AreLostBy c.args.request.now.deleted o trees) where_is lost.trees)
    (subst (λ text. Stopped (O.stream c.args.out.now) (O.stream c.write_lost.new.sink) text (leaves_as Unread)) (λ i. full_list c.args.form c.args.request.now.deleted (same i) ((lost.place ∙ where_is) i) (survey_by S s) trees)
    (rw c.in-Err-Unread-write_lost.field-0-is at (c.in-Err-Unread-write_lost.ensures.printed told)))

pub returns-then-not-is_steady-clause-begun : goal.returns-then-not-is_steady-clause-begun
returns-then-not-is_steady-clause-begun g c told t holds =
    let S = g.B.BlockStore.states in
    let O = g.O.Sink in
    let s = c.in-Ok.survey in
    let of = c.in-Ok.ensures.of in
    let same = ap S of.0 ∙ states_same (S c.args.blocks.now) t (g.met.B.ReportStore.held c.args.blocks.now t holds) in
    let lost = c.in-Ok-find_lost.ensures.found told in
    let trees = c.in-Ok-find_lost.lost.trees.items in
    let where_is : searched_of S s ≡ place c.args.request.now.volume.profile t c.args.last (survey_by S s) = λ i. searched (of.2 i) (same i) (of.1 i) (survey_by S s) in
    lost_out c.args.form c.args.request.now.deleted _ _ t (survey_by S s) _ (O.stream c.write_lost.new.sink) (c.in-Ok.ensures.headline told t holds) trees
    (subst (λ o. AreLostBy c.args.request.now.deleted o trees) where_is lost.trees)
    (subst (λ text. Wrote (O.stream c.args.out.now) (O.stream c.write_lost.new.sink) text) (λ i. full_list c.args.form c.args.request.now.deleted (same i) ((lost.place ∙ where_is) i) (survey_by S s) trees) (c.in-Ok-write_lost.ensures.printed told))

pub returns-clause-printed : goal.returns-clause-printed
returns-clause-printed g c told t holds =
    let S = g.B.BlockStore.states in
    let O = g.O.Sink in
    let s = c.in-Ok.survey in
    let of = c.in-Ok.ensures.of in
    let same = ap S of.0 ∙ states_same (S c.args.blocks.now) t (g.met.B.ReportStore.held c.args.blocks.now t holds) in
    let lost = c.in-Ok-find_lost.ensures.found told in
    let trees = c.in-Ok-find_lost.lost.trees.items in
    let where_is : searched_of S s ≡ place c.args.request.now.volume.profile t c.args.last (survey_by S s) = λ i. searched (of.2 i) (same i) (of.1 i) (survey_by S s) in
    lost_told c.args.form c.args.request.now.deleted _ _ t (survey_by S s) _ (O.stream c.write_lost.new.sink) (c.in-Ok.ensures.headline told t holds) trees
    (subst (λ o. AreLostBy c.args.request.now.deleted o trees) where_is lost.trees) _
    (subst (λ text. Wrote (O.stream c.args.out.now) (O.stream c.write_lost.new.sink) text) (λ i. full_list c.args.form c.args.request.now.deleted (same i) ((lost.place ∙ where_is) i) (survey_by S s) trees) (c.in-Ok-write_lost.ensures.printed told))
    c.all_whole.ensures
