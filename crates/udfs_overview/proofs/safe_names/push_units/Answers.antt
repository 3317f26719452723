use Rattle.std.proofs.Common.{◌≡◌, ◌++◌, [], length, sym, subst, ◌∙◌}
use Rattle.std.specs.String.{string_bytes}
use Rattle.std.specs.Str.{encode_utf8_all}
use Rattle.std.proofs.lemmas.List.{nil_from_length, append-nil}
use Rattle.udfs_overview.specs.SafeNames.{safe_units}
use Rattle.udfs_overview.proofs.SafeShowing.{front_appended, empty, not_empty}
use Rattle.udfs_overview.proofs.safe_names.push_units.Goals as goal

pub loop-rest-preserved : goal.loop-rest-preserved
loop-rest-preserved c =
    let rest = c.loop-rest.rest.now in
    let whole = string_bytes c.args.text.now ++ encode_utf8_all (safe_units c.args.units.now) in
    let new = string_bytes c.push_front.new.text in
    subst (λ us. new ++ encode_utf8_all (safe_units us) ≡ whole) (sym c.split_at.ensures.back)
    (front_appended whole (string_bytes c.loop-rest.text) new rest c.in_ok-count.count
    (not_empty (length rest) c.is_empty.result c.is_empty.ensures c.loop-rest-test.true) c.in_ok-count.ensures.count c.in_ok-count.ensures.ok c.loop-rest.invariant)

pub returns : goal.returns
unfolding safe_units
returns c =
    let rest = c.loop-rest.rest.now in
    let new = string_bytes c.loop-rest.text in
    let whole = string_bytes c.args.text.now ++ encode_utf8_all (safe_units c.args.units.now) in
    let none : rest ≡ [] = nil_from_length rest (empty (length rest) c.is_empty.result c.is_empty.ensures c.loop-rest-test.false) in
    sym (append-nil new) ∙ subst (λ us. new ++ encode_utf8_all (safe_units us) ≡ whole) none c.loop-rest.invariant
