use Rattle.std.proofs.Common.{◌∙◌, ◌++◌, ap, subst}
use Rattle.std.specs.Prelude.{codes}
use Rattle.std.specs.String.{string_bytes}
use Rattle.std.proofs.lemmas.Result.{err_from_is_err_and}
use Rattle.udfs_reading.specs.Writing.{Passed}
use Rattle.udfs_salvage.specs.Printing.{Stopped}
use Rattle.udfs_salvage.specs.StorePrinting.{leaves_as}
use Rattle.udfs_salvage.specs.declared.errors.RunError.TheVariants.{OutOfMemory}
use Rattle.udfs_salvage.specs.Surveys.{survey_by}
use Rattle.udfs_overview.specs.Repeating.{given_now}
use Rattle.udfs_page.specs.Arcs.{arcs_of}
use Rattle.udfs_page.specs.Naming.{called_now}
use Rattle.udfs_page.specs.Markups.{markup}
use Rattle.udfs_page.specs.Pages.{page_html}
use Rattle.udfs_page.proofs.PageParts.{lost_of, page_of_counts}
use Rattle.udfs_salvage.proofs.Passing.{passed_then}
use Rattle.udfs_salvage.proofs.Printed.{stopped_then}
use Rattle.udfs_salvage.proofs.StoreAnswers.{states_same}
use Rattle.udfs_page.proofs.Passing.{gave_up_first, passed_pushed, passed_refused, pushed_passed, pushed_stopped, refused_first, stopped_before}
use Rattle.udfs_page.proofs.pages.put_page.Goals as goal

pub returns-in_err-counts-clause-printed : goal.returns-in_err-counts-clause-printed
returns-in_err-counts-clause-printed g c told t holds =
    let p = err_from_is_err_and c.from_residual.result c.from_residual.ensures.1 in
    let s = c.args.survey.now in
    rw (p.1, p.2) (gave_up_first _ (string_bytes c.args.text.now) (page_html (given_now c.args.given.now) (called_now c.args.called.now) s.profile t s.last (survey_by g.B.BlockStore.states s) c.args.answer.now) c.in_err-counts.field-0.0)

pub returns-in_err-marks-clause-printed : goal.returns-in_err-marks-clause-printed
returns-in_err-marks-clause-printed g c told t holds =
    let p = err_from_is_err_and c.from_residual-in_err-marks.result c.from_residual-in_err-marks.ensures.1 in
    let s = c.args.survey.now in
    rw (p.1, p.2) (refused_first _ (string_bytes c.args.text.now) (page_html (given_now c.args.given.now) (called_now c.args.called.now) s.profile t s.last (survey_by g.B.BlockStore.states s) c.args.answer.now))

pub returns-in_err-push_front-clause-printed : goal.returns-in_err-push_front-clause-printed
returns-in_err-push_front-clause-printed g c told t holds =
    let p = err_from_is_err_and c.from_residual-in_err-push_front.result c.from_residual-in_err-push_front.ensures.1 in
    let s = c.args.survey.now in
    rw (p.1, p.2) (refused_first _ (string_bytes c.args.text.now) (page_html (given_now c.args.given.now) (called_now c.args.called.now) s.profile t s.last (survey_by g.B.BlockStore.states s) c.args.answer.now))

pub returns-in_err-put_about_files-clause-printed : goal.returns-in_err-put_about_files-clause-printed
returns-in_err-put_about_files-clause-printed g c told t holds =
    let W = g.W.Sink in
    let p = err_from_is_err_and c.from_residual-in_err-put_about_files.result c.from_residual-in_err-put_about_files.ensures.1 in
    let s = c.args.survey.now in
    let M = g.B.BlockStore.states s.table.now in
    let r = survey_by g.B.BlockStore.states s in
    let n = c.in_ok-counts.counts in
    let drawn = c.deref-2.ensures.value ∙ c.in_ok-marks.ensures.value told ∙ ap (λ ns. arcs_of M ns s.last) c.deref.ensures.value in
    let page = page_of_counts (given_now c.args.given.now) (called_now c.args.called.now) s.profile M t s.last r c.args.answer.now n.figures c.deref-2.result.now n.torn.rows.items n.torn.count
    (states_same M t (g.met.B.ReportStore.held s.table.now t holds)) (c.in_ok-counts.ensures.counted told t holds) drawn in
    let end = markup (codes "</body>\n</html>\n") in
    let lost = lost_of (given_now c.args.given.now) s.profile M s.last r c.args.answer.now in
    rw (p.1, p.2) (subst (λ x. Stopped (W.stream c.args.sink.now) (W.stream c.put_about_files.new.sink) (string_bytes c.args.text.now ++ x) (leaves_as c.in_err-put_about_files.field-0.0)) page
    (stopped_before _ _ _ _ end _ (stopped_before _ _ _ _ lost _ (pushed_stopped _ (W.stream c.put_about_files.new.sink) _ _ _ _ _ c.in_ok-push_front.ensures (c.in_err-put_about_files.ensures.printed told)))))

pub returns-in_err-put_lost-clause-printed : goal.returns-in_err-put_lost-clause-printed
returns-in_err-put_lost-clause-printed g c told t holds =
    let W = g.W.Sink in
    let p = err_from_is_err_and c.from_residual-in_err-put_lost.result c.from_residual-in_err-put_lost.ensures.1 in
    let s = c.args.survey.now in
    let M = g.B.BlockStore.states s.table.now in
    let r = survey_by g.B.BlockStore.states s in
    let n = c.in_ok-counts.counts in
    let drawn = c.deref-2.ensures.value ∙ c.in_ok-marks.ensures.value told ∙ ap (λ ns. arcs_of M ns s.last) c.deref.ensures.value in
    let page = page_of_counts (given_now c.args.given.now) (called_now c.args.called.now) s.profile M t s.last r c.args.answer.now n.figures c.deref-2.result.now n.torn.rows.items n.torn.count
    (states_same M t (g.met.B.ReportStore.held s.table.now t holds)) (c.in_ok-counts.ensures.counted told t holds) drawn in
    let end = markup (codes "</body>\n</html>\n") in
    let lost = lost_of (given_now c.args.given.now) s.profile M s.last r c.args.answer.now in
    rw (p.1, p.2) (subst (λ x. Stopped (W.stream c.args.sink.now) (W.stream c.put_lost.new.sink) (string_bytes c.args.text.now ++ x) (leaves_as c.in_err-put_lost.field-0.0)) page
    (stopped_before _ _ _ _ end _ (stopped_then lost (pushed_passed _ (W.stream c.put_about_files.new.sink) _ _ _ _ _ c.in_ok-push_front.ensures (c.in_ok-put_about_files.ensures.printed told)) (c.in_err-put_lost.ensures.printed told))))

pub returns-in_err-push_markup-clause-printed : goal.returns-in_err-push_markup-clause-printed
returns-in_err-push_markup-clause-printed g c told t holds =
    let W = g.W.Sink in
    let p = err_from_is_err_and c.from_residual-in_err-push_markup.result c.from_residual-in_err-push_markup.ensures.1 in
    let s = c.args.survey.now in
    let M = g.B.BlockStore.states s.table.now in
    let r = survey_by g.B.BlockStore.states s in
    let n = c.in_ok-counts.counts in
    let drawn = c.deref-2.ensures.value ∙ c.in_ok-marks.ensures.value told ∙ ap (λ ns. arcs_of M ns s.last) c.deref.ensures.value in
    let page = page_of_counts (given_now c.args.given.now) (called_now c.args.called.now) s.profile M t s.last r c.args.answer.now n.figures c.deref-2.result.now n.torn.rows.items n.torn.count
    (states_same M t (g.met.B.ReportStore.held s.table.now t holds)) (c.in_ok-counts.ensures.counted told t holds) drawn in
    let end = markup (codes "</body>\n</html>\n") in
    let lost = lost_of (given_now c.args.given.now) s.profile M s.last r c.args.answer.now in
    rw (p.1, p.2) (subst (λ x. Stopped (W.stream c.args.sink.now) (W.stream c.put_lost.new.sink) (string_bytes c.args.text.now ++ x) OutOfMemory) page
    (passed_refused end (passed_then (pushed_passed _ (W.stream c.put_about_files.new.sink) _ _ _ _ _ c.in_ok-push_front.ensures (c.in_ok-put_about_files.ensures.printed told)) (c.in_ok-put_lost.ensures.printed told))))

pub returns-clause-printed : goal.returns-clause-printed
returns-clause-printed g c told t holds =
    let W = g.W.Sink in
    let s = c.args.survey.now in
    let M = g.B.BlockStore.states s.table.now in
    let r = survey_by g.B.BlockStore.states s in
    let n = c.in_ok-counts.counts in
    let drawn = c.deref-2.ensures.value ∙ c.in_ok-marks.ensures.value told ∙ ap (λ ns. arcs_of M ns s.last) c.deref.ensures.value in
    let page = page_of_counts (given_now c.args.given.now) (called_now c.args.called.now) s.profile M t s.last r c.args.answer.now n.figures c.deref-2.result.now n.torn.rows.items n.torn.count
    (states_same M t (g.met.B.ReportStore.held s.table.now t holds)) (c.in_ok-counts.ensures.counted told t holds) drawn in
    let end = markup (codes "</body>\n</html>\n") in
    subst (Passed (W.stream c.args.sink.now) (W.stream c.put_lost.new.sink) (string_bytes c.args.text.now) (string_bytes c.push_markup.new.text)) page
    (passed_pushed end (passed_then (pushed_passed _ (W.stream c.put_about_files.new.sink) _ _ _ _ _ c.in_ok-push_front.ensures (c.in_ok-put_about_files.ensures.printed told)) (c.in_ok-put_lost.ensures.printed told)) c.in_ok-push_markup.ensures)
