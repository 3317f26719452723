use Rattle.udfs_salvage.proofs.Runs.{refused_by}
use Rattle.udfs_salvage.proofs.running.report_table.Goals as goal

pub returns-clause-answers : goal.returns-clause-answers
returns-clause-answers g c =
    let W = g.W.Sink in
    refused_by c.args.profile c.args.table.now c.args.last (W.stream c.args.sink.now) c.survey_volume_by.result c.in-Err.error c.run_refusal.result c.run_refusal.ensures c.in-Err.is
    c.survey_volume_by.ensures.range.0 (λ n. (c.survey_volume_by.ensures.past n).0) c.survey_volume_by.ensures.too_many c.in-Err.ensures.of_no_lawful
