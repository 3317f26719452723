use Rattle.std.proofs.Common.{sym}
use Rattle.std.proofs.lemmas.Result.{err_from_is_err_and}
use Rattle.udfs_salvage.proofs.Putting.{stopped_most}
use Rattle.udfs_salvage.proofs.survey_printing.write_survey_by.Goals as goal

pub returns-in_err-finish-clause-printed : goal.returns-in_err-finish-clause-printed
returns-in_err-finish-clause-printed g c told t holds =
    let p = err_from_is_err_and c.from_residual.result c.from_residual.ensures.1 in
    rw (p.1, p.2) (stopped_most _ _ _ _ _ c.put_survey-told.result c.in_err-finish.field-0.0 c.in_err-finish.ensures.fault (rw (sym c.new-out.ensures) (c.put_survey-told.ensures.text told t holds)) c.in_err-finish.ensures.written)
