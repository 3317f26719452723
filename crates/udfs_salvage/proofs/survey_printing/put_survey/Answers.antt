use Rattle.std.proofs.Common.{ap₂}
use Rattle.std.proofs.lemmas.Result.{err_from_is_err_and}
use Rattle.udfs_lattice.specs.Tables.{state_of}
use Rattle.udfs_salvage.specs.Found.{volume_now}
use Rattle.udfs_salvage.specs.Surveys.{survey_by}
use Rattle.udfs_salvage.specs.Texts.{end_line, has_two, reread_lines}
use Rattle.udfs_salvage.specs.NodeTexts.{report_text_by, unnamed_texts}
use Rattle.udfs_salvage.proofs.StoreAnswers.{states_same}
use Rattle.udfs_salvage.proofs.Putting.{front_before, front_then, puts_same, puts_with}
use Rattle.udfs_salvage.proofs.survey_printing.put_survey.Goals as goal

pub returns-in_err-put_survey_nodes-clause-text : goal.returns-in_err-put_survey_nodes-clause-text
unfolding report_text_by
returns-in_err-put_survey_nodes-clause-text g c told t holds =
    let p = err_from_is_err_and c.from_residual.result c.from_residual.ensures.1 in
    let s = c.args.survey.now in
    let unnamed = unnamed_texts (has_two (volume_now s.volume)) (survey_by g.B.BlockStore.states s).unnamed in
    let rereads = reread_lines (state_of t) s.reread.items in
    rw p.1 (front_before end_line (front_before rereads (front_before unnamed (front_then (c.put_head.ensures told t holds) (c.in_err-put_survey_nodes.ensures.text told)))))

pub returns-in_err-put_survey_entries-clause-text : goal.returns-in_err-put_survey_entries-clause-text
unfolding report_text_by
returns-in_err-put_survey_entries-clause-text g c told t holds =
    let p = err_from_is_err_and c.from_residual-in_err-put_survey_entries.result c.from_residual-in_err-put_survey_entries.ensures.1 in
    let s = c.args.survey.now in
    let rereads = reread_lines (state_of t) s.reread.items in
    rw p.1 (front_before end_line (front_before rereads (front_then (puts_with (c.put_head.ensures told t holds) (c.in_ok-put_survey_nodes.ensures.text told)) (c.in_err-put_survey_entries.ensures.text told))))

pub returns-clause-text : goal.returns-clause-text
unfolding report_text_by
returns-clause-text g c told t holds =
    let s = c.args.survey.now in
    let M = g.B.BlockStore.states s.table.now in
    let same = ap₂ reread_lines (states_same M t (g.met.B.ReportStore.held s.table.now t holds)) c.deref.ensures.value in
    let rereads = puts_same same (c.put_rereads.ensures told) in
    puts_with (puts_with (puts_with (puts_with (c.put_head.ensures told t holds) (c.in_ok-put_survey_nodes.ensures.text told)) (c.in_ok-put_survey_entries.ensures.text told)) rereads) c.put_end.ensures
