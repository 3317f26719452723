use Rattle.std.proofs.Common.{◌++◌, refl, sym}
use Rattle.std.specs.String.{string_bytes}
use Rattle.std.proofs.lemmas.Result.{err_from_is_err_and}
use Rattle.std.specs.Prelude.{codes}
use Rattle.serde_json.specs.Written.{compact_text}
use Rattle.udfs_salvage.specs.Found.{volume_now}
use Rattle.udfs_salvage.specs.JsonNodes.{list_data, unnamed_data}
use Rattle.udfs_salvage.specs.JsonPieces.{report_end}
use Rattle.udfs_salvage.specs.JsonReports.{reread_data}
use Rattle.udfs_salvage.specs.Surveys.{survey_by}
use Rattle.udfs_salvage.specs.Texts.{has_two}
use Rattle.udfs_salvage.proofs.Printed.{passes_three_by, stopped_first_of, stopped_second_of}
use Rattle.udfs_salvage.proofs.survey_json.put_later.Goals as goal

pub returns-in_err-put_rereads-clause-text : goal.returns-in_err-put_rereads-clause-text
returns-in_err-put_rereads-clause-text g c told =
    let p = err_from_is_err_and c.from_residual.result c.from_residual.ensures.1 in
    let s = c.args.survey.now in
    let first = compact_text (list_data (reread_data (g.B.BlockStore.states s.table.now)) c.deref.result.now) in
    let second = codes ",\"unnamed\":" in
    let third = compact_text (list_data (unnamed_data (has_two (volume_now s.volume))) (survey_by g.B.BlockStore.states s).unnamed) ++ (report_end (volume_now s.volume) ++ codes "\n") in
    rw (p.1, p.2, sym c.deref.ensures.value) (stopped_first_of _ first (second ++ third) _ refl (c.in_err-put_rereads.ensures told))

pub returns-in_err-put_words-clause-text : goal.returns-in_err-put_words-clause-text
returns-in_err-put_words-clause-text g c told =
    let p = err_from_is_err_and c.from_residual-in_err-put_words.result c.from_residual-in_err-put_words.ensures.1 in
    let s = c.args.survey.now in
    let first = compact_text (list_data (reread_data (g.B.BlockStore.states s.table.now)) c.deref.result.now) in
    let second = codes ",\"unnamed\":" in
    let third = compact_text (list_data (unnamed_data (has_two (volume_now s.volume))) (survey_by g.B.BlockStore.states s).unnamed) ++ (report_end (volume_now s.volume) ++ codes "\n") in
    rw (p.1, p.2, sym c.deref.ensures.value) (stopped_second_of first second third _ refl (c.in_ok-put_rereads.ensures told) c.in_err-put_words.ensures)

pub returns-clause-text : goal.returns-clause-text
returns-clause-text g c told =
    let W = g.W.Sink in
    let s = c.args.survey.now in
    let first = compact_text (list_data (reread_data (g.B.BlockStore.states s.table.now)) c.deref.result.now) in
    let second = codes ",\"unnamed\":" in
    let third = compact_text (list_data (unnamed_data (has_two (volume_now s.volume))) (survey_by g.B.BlockStore.states s).unnamed) ++ (report_end (volume_now s.volume) ++ codes "\n") in
    rw (sym c.deref.ensures.value) (passes_three_by (W.stream c.put_last.new.sink) (string_bytes c.put_last.new.text) first second third _ c.put_last.result refl (c.in_ok-put_rereads.ensures told) c.in_ok-put_words.ensures (c.put_last.ensures.text told))
