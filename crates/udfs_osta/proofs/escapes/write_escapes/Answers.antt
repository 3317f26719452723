use Rattle.std.proofs.Common.{◌+◌, drop, get_or, subst}
use Rattle.std.specs.List.{flat_map}
use Rattle.std.specs.String.{string_bytes}
use Rattle.std.specs.Str.{encode_utf8_all}
use Rattle.udfs_osta.specs.Escapes.{escape}
use Rattle.udfs_osta.specs.Texts.{IsPartWritten}
use Rattle.udfs_osta.proofs.Appending.{at_err, Progress-stop}
use Rattle.udfs_osta.proofs.Showing.{escaped_from}
use Rattle.udfs_osta.proofs.escapes.write_escapes.Goals as goal

pub returns-in_err-write_escape-clause-err : goal.returns-in_err-write_escape-clause-err
returns-in_err-write_escape-clause-err c =
    let units = c.args.units.now in
    let i = c.loop-unit.unit-index in
    let old = string_bytes c.args.text.now in
    let middle = string_bytes c.loop-unit.text in
    let whole = encode_utf8_all (flat_map escape units) in
    let first = encode_utf8_all (escape (get_or units i 0)) in
    let rest = encode_utf8_all (flat_map escape (drop (i + 1) units)) in
    let p = subst (IsPartWritten old middle whole) (escaped_from units i c.loop-unit-test.true) c.loop-unit.invariant in
    at_err c.from_residual.result (Progress-stop old middle (string_bytes c.write_escape.new.text) whole first rest p c.in_err-write_escape.ensures.err)
