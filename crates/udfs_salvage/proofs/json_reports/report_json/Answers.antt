use Rattle.std.proofs.Common.{ap, ◌∙◌}
use Rattle.serde_json.specs.Written.{compact_text, has_float}
use Rattle.udfs_salvage.specs.Reports.{report_now}
use Rattle.udfs_salvage.proofs.JsonFloats.{report_none}
use Rattle.udfs_salvage.proofs.json_reports.report_json.Goals as goal

pub returns : goal.returns
returns c =
    let r = c.args.report.now in
    c.in_ok-text.ensures.text (ap has_float c.in_ok-value.ensures ∙ report_none r.profile r.table.now r.last (report_now r)) ∙ ap compact_text c.in_ok-value.ensures
