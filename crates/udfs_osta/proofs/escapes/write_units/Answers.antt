use Rattle.std.proofs.Common.{◌≡◌, [], length, drop, sym, subst}
use Rattle.std.specs.String.{string_bytes}
use Rattle.std.specs.Str.{encode_utf8_all}
use Rattle.std.proofs.lemmas.List.{nil_from_length}
use Rattle.udfs_osta.specs.Escapes.{shown}
use Rattle.udfs_osta.specs.Texts.{IsPartWritten}
use Rattle.udfs_osta.proofs.Appending.{at_err, Progress-cut, Progress-step, Progress-end}
use Rattle.udfs_osta.proofs.Showing.{empty}
use Rattle.udfs_osta.proofs.escapes.write_units.Goals as goal

pub returns-in_err-count-clause-err : goal.returns-in_err-count-clause-err
returns-in_err-count-clause-err c =
    let rest = c.loop-rest.rest.now in
    let old = string_bytes c.args.text.now in
    let middle = string_bytes c.loop-rest.text in
    let whole = encode_utf8_all (shown c.args.units.now) in
    at_err c.from_residual.result (Progress-cut old middle (string_bytes c.write_part.new.text) whole (encode_utf8_all (shown rest)) c.loop-rest.invariant c.in_err-count.ensures.err)

pub loop-rest-preserved : goal.loop-rest-preserved
loop-rest-preserved c =
    let rest = c.loop-rest.rest.now in
    let old = string_bytes c.args.text.now in
    let middle = string_bytes c.loop-rest.text in
    let new = string_bytes c.write_part.new.text in
    let whole = encode_utf8_all (shown c.args.units.now) in
    let part = c.in_ok-count.ensures.ok in
    let p = subst (IsPartWritten old middle whole) part.1 c.loop-rest.invariant in
    subst (λ us. IsPartWritten old new whole (encode_utf8_all (shown us))) (sym c.split_at.ensures.back)
    (Progress-step old middle new whole part.0 (encode_utf8_all (shown (drop c.in_ok-count.count rest))) p part.2)

pub returns-clause-ok : goal.returns-clause-ok
unfolding shown
returns-clause-ok c =
    let rest = c.loop-rest.rest.now in
    let old = string_bytes c.args.text.now in
    let new = string_bytes c.loop-rest.text in
    let whole = encode_utf8_all (shown c.args.units.now) in
    let none : rest ≡ [] = nil_from_length rest (empty (length rest) c.is_empty.result c.is_empty.ensures c.loop-rest-test.false) in
    Progress-end old new whole (subst (λ us. IsPartWritten old new whole (encode_utf8_all (shown us))) none c.loop-rest.invariant)
