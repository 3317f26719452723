use Rattle.std.proofs.Common.{◌++◌, refl}
use Rattle.std.proofs.lemmas.Result.{err_from_is_err_and}
use Rattle.std.specs.Prelude.{codes}
use Rattle.serde_json.specs.Written.{compact_text}
use Rattle.udfs_salvage.specs.Found.{volume_now}
use Rattle.udfs_salvage.specs.JsonNodes.{list_data, unnamed_data}
use Rattle.udfs_salvage.specs.JsonPieces.{report_end}
use Rattle.udfs_salvage.specs.Surveys.{survey_by}
use Rattle.udfs_salvage.specs.Texts.{has_two}
use Rattle.udfs_salvage.proofs.Printed.{passed_three, stopped_first_of, stopped_second_of, stopped_third_of}
use Rattle.udfs_salvage.proofs.survey_json.put_last.Goals as goal

pub returns-in_err-put_survey_entries-clause-text : goal.returns-in_err-put_survey_entries-clause-text
returns-in_err-put_survey_entries-clause-text g c told =
    let p = err_from_is_err_and c.from_residual.result c.from_residual.ensures.1 in
    let s = c.args.survey.now in
    let first = compact_text (list_data (unnamed_data (has_two (volume_now s.volume))) (survey_by g.B.BlockStore.states s).unnamed) in
    let second = report_end (volume_now s.volume) in
    let third = codes "\n" in
    rw (p.1, p.2) (stopped_first_of _ first (second ++ third) _ refl (c.in_err-put_survey_entries.ensures.text told))

pub returns-in_err-put_end-clause-text : goal.returns-in_err-put_end-clause-text
returns-in_err-put_end-clause-text g c told =
    let p = err_from_is_err_and c.from_residual-in_err-put_end.result c.from_residual-in_err-put_end.ensures.1 in
    let s = c.args.survey.now in
    let first = compact_text (list_data (unnamed_data (has_two (volume_now s.volume))) (survey_by g.B.BlockStore.states s).unnamed) in
    let second = report_end (volume_now s.volume) in
    let third = codes "\n" in
    rw (p.1, p.2) (stopped_second_of first second third _ refl (c.in_ok-put_survey_entries.ensures.text told) c.in_err-put_end.ensures)

pub returns-in_err-put_words-clause-text : goal.returns-in_err-put_words-clause-text
returns-in_err-put_words-clause-text g c told =
    let p = err_from_is_err_and c.from_residual-in_err-put_words.result c.from_residual-in_err-put_words.ensures.1 in
    let s = c.args.survey.now in
    let first = compact_text (list_data (unnamed_data (has_two (volume_now s.volume))) (survey_by g.B.BlockStore.states s).unnamed) in
    let second = report_end (volume_now s.volume) in
    let third = codes "\n" in
    rw (p.1, p.2) (stopped_third_of first second third _ refl (c.in_ok-put_survey_entries.ensures.text told) c.in_ok-put_end.ensures c.in_err-put_words.ensures)

pub returns-clause-text : goal.returns-clause-text
returns-clause-text g c told =
    let s = c.args.survey.now in
    let first = compact_text (list_data (unnamed_data (has_two (volume_now s.volume))) (survey_by g.B.BlockStore.states s).unnamed) in
    let second = report_end (volume_now s.volume) in
    let third = codes "\n" in
    passed_three first second third _ refl (c.in_ok-put_survey_entries.ensures.text told) c.in_ok-put_end.ensures c.in_ok-put_words.ensures
