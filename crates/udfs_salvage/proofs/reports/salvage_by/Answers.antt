use Rattle.std.proofs.Common.{◌≡◌, sym, subst, ◌∙◌}
use Rattle.udfs_lattice.specs.Tables.{state_of}
use Rattle.udfs_volume.specs.Seen.{IsRising}
use Rattle.udfs_salvage.specs.Found.{volume_now}
use Rattle.udfs_salvage.specs.Headline.{HeadlineBy}
use Rattle.udfs_salvage.specs.Reports.{IsReportBy}
use Rattle.udfs_salvage.proofs.StoreAnswers.{err_same, of_refusal, of_report}
use Rattle.udfs_salvage.proofs.Surveying.{wants_memory}
use Rattle.udfs_salvage.proofs.reports.salvage_by.Goals as goal

-- the survey has the report
pub returns-in-Ok-filled : goal.returns-in-Ok-filled
returns-in-Ok-filled c =
    let was = c.in-Ok.ensures in
    let is = c.in-Ok-filled.ensures in
    let M = state_of c.args.table.now in
    let told = subst (IsReportBy c.args.profile M c.args.last) (sym is.report) was.report in
    let answers = of_report c.args.profile M c.args.last _ c.in-Ok-filled.report told in
    record {
      range = answers.range;
      past = answers.past;
      too_many = answers.too_many;
      report = told;
      headline = subst (HeadlineBy c.args.profile M c.args.last) (sym is.report) was.headline;
      memory = answers.memory;
      of_no_lawful = tt;
      rising = subst IsRising (sym is.reread) was.rising;
      rules = is.rules ∙ was.rules;
      of = (is.of.0 ∙ was.of.0, is.of.1 ∙ was.of.1);
    }

pub returns-in-Err-filled : goal.returns-in-Err-filled
returns-in-Err-filled c =
    let was = c.in-Ok.ensures in
    let M = state_of c.args.table.now in
    let answers = of_refusal c.args.profile M c.args.last _ (was.report.in_range, was.report.nothing_past, wants_memory c.args.profile M c.args.last (volume_now c.in-Ok.survey.volume) was.report.volume_is c.in-Err-filled.ensures.fault) in
    record {
      range = answers.range;
      past = answers.past;
      too_many = answers.too_many;
      report = tt;
      headline = tt;
      memory = answers.memory;
      of_no_lawful = answers.of_no_lawful;
      rising = tt;
      rules = tt;
      of = tt;
    }

pub returns-in-Err-clause-past : goal.returns-in-Err-clause-past
returns-in-Err-clause-past c n = let was = c.in-Err.ensures.past n in (λ e. was.0 (err_same _ _ e), λ p. err_same _ _ (was.1 p))
