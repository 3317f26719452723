use Rattle.std.proofs.Common.{◌++◌, refl}
use Rattle.std.specs.String.{string_bytes}
use Rattle.std.proofs.lemmas.Result.{err_from_is_err_and}
use Rattle.udfs_salvage.specs.JsonPieces.{entry_end, entry_front, told_piece}
use Rattle.udfs_salvage.proofs.Printed.{passes_three, stopped_first_of, stopped_second_of}
use Rattle.udfs_salvage.proofs.survey_json.put_told_entry.Goals as goal

pub returns-in_err-put_entry_front : goal.returns-in_err-put_entry_front
returns-in_err-put_entry_front g c =
    let p = err_from_is_err_and c.from_residual.result c.from_residual.ensures.1 in
    let n = c.args.entry.now in
    let s = c.args.full.now in
    rw (p.1, p.2) (stopped_first_of _ (c.args.front.now ++ entry_front n.block) (told_piece s n.kind ++ entry_end c.args.two n) _ refl c.in_err-put_entry_front.ensures)

pub returns-in_err-put_told : goal.returns-in_err-put_told
returns-in_err-put_told g c =
    let p = err_from_is_err_and c.from_residual-in_err-put_told.result c.from_residual-in_err-put_told.ensures.1 in
    let n = c.args.entry.now in
    let s = c.args.full.now in
    rw (p.1, p.2) (stopped_second_of (c.args.front.now ++ entry_front n.block) (told_piece s n.kind) (entry_end c.args.two n) _ refl c.in_ok-put_entry_front.ensures c.in_err-put_told.ensures)

pub returns : goal.returns
returns g c =
    let W = g.W.Sink in
    let n = c.args.entry.now in
    let s = c.args.full.now in
    passes_three (W.stream c.put_entry_end.new.sink) (string_bytes c.put_entry_end.new.text) (c.args.front.now ++ entry_front n.block) (told_piece s n.kind) (entry_end c.args.two n) _ c.put_entry_end.result
    refl c.in_ok-put_entry_front.ensures c.in_ok-put_told.ensures c.put_entry_end.ensures
