use Rattle.std.proofs.Common.{◌≡◌, inl, refl, rules}
use Rattle.udfs_remarks.specs.NoReports.{salvage_refusal_of}
use Rattle.udfs_salvage.specs.Surveys.{survey_by}
use Rattle.udfs_reports.specs.Summarizing.{IsSummary}
use Rattle.udfs_reports.proofs.ToldTexts.{text_begun, text_out, text_stopped, text_told}
use Rattle.udfs_reports.proofs.summary.SummaryAsTelling.tell.Goals as goal

pub returns-in-Err-Salvage-clause-refused : goal.returns-in-Err-Salvage-clause-refused
returns-in-Err-Salvage-clause-refused g c told table holds =
    let same : c.refused_report.result ≡ salvage_refusal_of c.in-Err-Salvage.error = search rules in
    let refused = rw c.in-Err-Salvage.field-0-is at (c.in-Err-Salvage.ensures.refused told table holds) in
    inl (refl, rw same refused)

pub returns-in-Err-Unread-clause-begun : goal.returns-in-Err-Unread-clause-begun
returns-in-Err-Unread-clause-begun g c told table holds = inl refl

pub returns-in-Err-Run-clause-refused : goal.returns-in-Err-Run-clause-refused
returns-in-Err-Run-clause-refused g c told table holds =
    let of = c.in-Ok.ensures.of in
    let printed = c.in-Err-Run.ensures.printed told table (rw of.0 holds) in
    text_stopped (IsSummary c.args.self.now.request.now) c.args.profile c.args.last table (survey_by g.B.BlockStore.states c.in-Ok.judged.survey) _ (g.O.Sink.stream c.print_summary.new.out) (c.in-Ok.ensures.headline told table holds) _
    (record { answer = c.in-Ok.judged.answer; decided = c.in-Ok.ensures.decided told table holds; is = refl }) c.in-Err-Run.error _
    (rw (← of.1, ← of.2) (rw c.in-Err-Run.field-0-is at printed)) (search rules)

pub returns-in-Err-Unread-print_summary-clause-begun : goal.returns-in-Err-Unread-print_summary-clause-begun
returns-in-Err-Unread-print_summary-clause-begun g c told table holds =
    let of = c.in-Ok.ensures.of in
    let printed = c.in-Err-Unread-print_summary.ensures.printed told table (rw of.0 holds) in
    text_begun (IsSummary c.args.self.now.request.now) c.args.profile c.args.last table (survey_by g.B.BlockStore.states c.in-Ok.judged.survey) _ (g.O.Sink.stream c.print_summary.new.out) (c.in-Ok.ensures.headline told table holds) _
    (record { answer = c.in-Ok.judged.answer; decided = c.in-Ok.ensures.decided told table holds; is = refl })
    (rw (← of.1, ← of.2) (rw c.in-Err-Unread-print_summary.field-0-is at printed))

pub returns-then-not-is_steady-clause-begun : goal.returns-then-not-is_steady-clause-begun
returns-then-not-is_steady-clause-begun g c told table holds =
    let of = c.in-Ok.ensures.of in
    text_out (IsSummary c.args.self.now.request.now) c.args.profile c.args.last table (survey_by g.B.BlockStore.states c.in-Ok.judged.survey) _ (g.O.Sink.stream c.print_summary.new.out) (c.in-Ok.ensures.headline told table holds) _
    (record { answer = c.in-Ok.judged.answer; decided = c.in-Ok.ensures.decided told table holds; is = refl })
    (rw (← of.1, ← of.2) (c.in-Ok-print_summary.ensures.printed told table (rw of.0 holds)))

pub returns-clause-printed : goal.returns-clause-printed
returns-clause-printed g c told table holds =
    let of = c.in-Ok.ensures.of in
    text_told (IsSummary c.args.self.now.request.now) c.args.profile c.args.last table (survey_by g.B.BlockStore.states c.in-Ok.judged.survey) _ (g.O.Sink.stream c.print_summary.new.out) (c.in-Ok.ensures.headline told table holds) _
    (record { answer = c.in-Ok.judged.answer; decided = c.in-Ok.ensures.decided told table holds; is = refl }) _
    (rw (← of.1, ← of.2) (c.in-Ok-print_summary.ensures.printed told table (rw of.0 holds))) c.in-Ok-print_summary.ensures.whole
