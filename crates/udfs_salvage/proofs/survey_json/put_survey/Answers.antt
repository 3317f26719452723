use Rattle.std.specs.String.{string_bytes}
use Rattle.std.proofs.lemmas.Result.{err_from_is_err_and}
use Rattle.udfs_salvage.specs.Found.{volume_now}
use Rattle.udfs_salvage.specs.JsonPieces.{report_front}
use Rattle.udfs_salvage.specs.Surveys.{survey_by}
use Rattle.udfs_salvage.proofs.JsonPieces.{report_pieces_by}
use Rattle.udfs_salvage.proofs.Printed.{passes_two_by, stopped_first_of}
use Rattle.udfs_salvage.proofs.StoreAnswers.{states_same}
use Rattle.udfs_salvage.proofs.survey_json.put_survey.Goals as goal

pub returns-in_err-put_front-clause-text : goal.returns-in_err-put_front-clause-text
returns-in_err-put_front-clause-text g c told t holds =
    let p = err_from_is_err_and c.from_residual.result c.from_residual.ensures.1 in
    let s = c.args.survey.now in
    let M = g.B.BlockStore.states s.table.now in
    let front = report_front t s.last (volume_now s.volume) in
    rw (p.1, p.2) (stopped_first_of _ front _ _ (report_pieces_by s.profile M t s.last (survey_by g.B.BlockStore.states s) (states_same M t (g.met.B.ReportStore.held s.table.now t holds))) (c.in_err-put_front.ensures told t holds))

pub returns-clause-text : goal.returns-clause-text
returns-clause-text g c told t holds =
    let W = g.W.Sink in
    let s = c.args.survey.now in
    let M = g.B.BlockStore.states s.table.now in
    let front = report_front t s.last (volume_now s.volume) in
    passes_two_by (W.stream c.put_lists_of.new.sink) (string_bytes c.put_lists_of.new.text) front _ _ c.put_lists_of.result
    (report_pieces_by s.profile M t s.last (survey_by g.B.BlockStore.states s) (states_same M t (g.met.B.ReportStore.held s.table.now t holds))) (c.in_ok-put_front.ensures told t holds) (c.put_lists_of.ensures.text told)
