use Rattle.std.proofs.Common.{◌≡◌, ℕ, ◌<◌, ◌++◌, List, length, drop, take, subst, sym, ap, ◌∙◌}
use Rattle.std.specs.Prelude.{Result, Ok, Err, OnOk, OnErr, IfOk}
use Rattle.std.specs.String.{string_bytes}
use Rattle.std.specs.Str.{encode_utf8_all}
use Rattle.udfs_osta.specs.Escapes.{shown}
use Rattle.udfs_osta.specs.Fronts.{front_len, front_chars}
use Rattle.udfs_osta.specs.Texts.{AppendsPart}
use Rattle.udfs_osta.proofs.Appending.{at_err, AppendsPart-first}
use Rattle.udfs_osta.proofs.Showing.{encoded_front, encoded_plain}
use Rattle.udfs_osta.proofs.escapes.write_part.Goals as goal

abbrev Rest : List ℕ → List ℕ → List ℕ → ℕ → Type 0
Rest old new units n = (part : List ℕ) × (encode_utf8_all (shown units) ≡ part ++ encode_utf8_all (shown (drop n units))) × (new ≡ old ++ part)

by_front : {E : Type 0} (r : Result ℕ E) (old new units : List ℕ) → 0 < length units → IfOk r (λ n. n ≡ front_len units)
    → OnOk r (new ≡ old ++ encode_utf8_all (front_chars units)) → IfOk r (Rest old new units)
by_front (Ok n) old new units some e h =
    (encode_utf8_all (front_chars units), encoded_front units some ∙ ap (λ k. encode_utf8_all (front_chars units) ++ encode_utf8_all (shown (drop k units))) (sym e), h)
by_front (Err x) old new units some e h = tt

part_of : {X E : Type 0} (r : Result X E) (old new first rest whole : List ℕ) → whole ≡ first ++ rest → OnErr r (AppendsPart old new first) → OnErr r (AppendsPart old new whole)
part_of (Ok n) old new first rest whole e h = tt
part_of (Err x) old new first rest whole e h = subst (AppendsPart old new) (sym e) (AppendsPart-first old new first rest h)

pub returns-then-count-eq0-clause-ok : goal.returns-then-count-eq0-clause-ok
returns-then-count-eq0-clause-ok c =
    by_front c.write_front.result (string_bytes c.args.text.now) (string_bytes c.write_front.new.text) c.args.units.now c.requires c.write_front.ensures.count c.write_front.ensures.ok

pub returns-then-count-eq0-clause-err : goal.returns-then-count-eq0-clause-err
returns-then-count-eq0-clause-err c =
    part_of c.write_front.result _ _ _ _ _ (encoded_front c.args.units.now c.requires) c.write_front.ensures.err

pub returns-in_err-push_ascii-clause-err : goal.returns-in_err-push_ascii-clause-err
returns-in_err-push_ascii-clause-err c =
    let units = c.args.units.now in
    let n = c.take_plain-count.result in
    at_err c.from_residual.result
    (subst (AppendsPart (string_bytes c.args.text.now) (string_bytes c.push_ascii.new.text))
    (sym (encoded_plain n units c.take_plain-count.ensures.fits c.take_plain-count.ensures.plain))
    (AppendsPart-first _ _ (take n units) (encode_utf8_all (shown (drop n units)))
    (subst (AppendsPart (string_bytes c.args.text.now) (string_bytes c.push_ascii.new.text)) c.take_plain-count.ensures.bytes c.in_err-push_ascii.ensures.err)))

pub returns-clause-ok : goal.returns-clause-ok
returns-clause-ok c =
    let units = c.args.units.now in
    let n = c.take_plain-count.result in
    (take n units, encoded_plain n units c.take_plain-count.ensures.fits c.take_plain-count.ensures.plain, c.in_ok-push_ascii.ensures.ok ∙ ap (λ bytes. string_bytes c.args.text.now ++ bytes) c.take_plain-count.ensures.bytes)
