use Rattle.std.proofs.Common.{◌≡◌, ◌∙◌, ◌++◌, ap, subst}
use Rattle.std.specs.String.{string_bytes}
use Rattle.std.proofs.lemmas.Result.{err_from_is_err_and}
use Rattle.udfs_reading.specs.Writing.{Wrote}
use Rattle.udfs_salvage.specs.Printing.{Stopped}
use Rattle.udfs_salvage.specs.Surveys.{survey_by}
use Rattle.udfs_overview.specs.SummaryJson.{figures_json}
use Rattle.udfs_overview.proofs.StoreSummaries.{gave_up_first, json_of_counts, none_written}
use Rattle.udfs_overview.proofs.summary_json.write_summary_json_by.Goals as goal

pub returns-in_err-counts-clause-printed : goal.returns-in_err-counts-clause-printed
returns-in_err-counts-clause-printed g c told t holds =
    let p = err_from_is_err_and c.from_residual.result c.from_residual.ensures.1 in
    rw (p.1, p.2) (gave_up_first _ _ c.in_err-counts.field-0.0)

pub returns-in_err-push_summary-clause-printed : goal.returns-in_err-push_summary-clause-printed
returns-in_err-push_summary-clause-printed g c told t holds =
    let p = err_from_is_err_and c.from_residual-in_err-push_summary.result c.from_residual-in_err-push_summary.ensures.1 in
    rw (p.1, p.2) (none_written _ _)

pub returns-in_err-flush-clause-printed : goal.returns-in_err-flush-clause-printed
returns-in_err-flush-clause-printed g c told t holds =
    let W = g.W.Sink in
    let p = err_from_is_err_and c.from_residual-in_err-flush.result c.from_residual-in_err-flush.ensures.1 in
    let s = c.args.survey.now in
    let r = survey_by g.B.BlockStore.states s in
    let n = c.in_ok-counts.counts in
    let lines = figures_json r.volume n.figures c.args.answer.now in
    let same = c.in_ok-push_summary.ensures ∙ ap (λ x. x ++ lines) c.new-text.ensures.bytes ∙ json_of_counts s.profile t s.last r c.args.answer.now n.figures n.torn.rows.items n.torn.count (c.in_ok-counts.ensures.counted told t holds) in
    rw (p.1, p.2) (subst (λ x. Stopped (W.stream c.args.sink.now) (W.stream c.flush.new.sink) x c.in_err-flush.field-0.0) same c.in_err-flush.ensures.written)

pub returns-clause-printed : goal.returns-clause-printed
returns-clause-printed g c told t holds =
    let W = g.W.Sink in
    let s = c.args.survey.now in
    let r = survey_by g.B.BlockStore.states s in
    let n = c.in_ok-counts.counts in
    let lines = figures_json r.volume n.figures c.args.answer.now in
    let same = c.in_ok-push_summary.ensures ∙ ap (λ x. x ++ lines) c.new-text.ensures.bytes ∙ json_of_counts s.profile t s.last r c.args.answer.now n.figures n.torn.rows.items n.torn.count (c.in_ok-counts.ensures.counted told t holds) in
    subst (Wrote (W.stream c.args.sink.now) (W.stream c.flush.new.sink)) same c.in_ok-flush.ensures.written
