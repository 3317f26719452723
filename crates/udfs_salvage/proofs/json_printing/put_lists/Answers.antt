use Rattle.std.proofs.Common.{◌++◌, refl}
use Rattle.std.specs.String.{string_bytes}
use Rattle.std.proofs.lemmas.Result.{err_from_is_err_and}
use Rattle.serde_json.specs.Written.{compact_text}
use Rattle.udfs_salvage.specs.JsonNodes.{count, hole_data, list_data}
use Rattle.udfs_salvage.specs.JsonPieces.{kind_piece}
use Rattle.udfs_salvage.proofs.Printed.{passes_three, stopped_first_of, stopped_second_of}
use Rattle.udfs_salvage.proofs.json_printing.put_lists.Goals as goal

pub returns-in_err-put_holes : goal.returns-in_err-put_holes
returns-in_err-put_holes g c =
    let p = err_from_is_err_and c.from_residual.result c.from_residual.ensures.1 in
    rw (p.1, p.2) (stopped_first_of _ (compact_text (list_data hole_data c.args.holes.now)) (kind_piece c.args.kind ++ compact_text (list_data count c.args.missing.now)) _ refl c.in_err-put_holes.ensures)

pub returns-in_err-put_kind : goal.returns-in_err-put_kind
returns-in_err-put_kind g c =
    let p = err_from_is_err_and c.from_residual-in_err-put_kind.result c.from_residual-in_err-put_kind.ensures.1 in
    rw (p.1, p.2) (stopped_second_of (compact_text (list_data hole_data c.args.holes.now)) (kind_piece c.args.kind) (compact_text (list_data count c.args.missing.now)) _ refl c.in_ok-put_holes.ensures c.in_err-put_kind.ensures)

pub returns : goal.returns
returns g c =
    let W = g.W.Sink in
    passes_three (W.stream c.put_counts.new.sink) (string_bytes c.put_counts.new.text) (compact_text (list_data hole_data c.args.holes.now)) (kind_piece c.args.kind) (compact_text (list_data count c.args.missing.now)) _ c.put_counts.result refl c.in_ok-put_holes.ensures c.in_ok-put_kind.ensures c.put_counts.ensures
