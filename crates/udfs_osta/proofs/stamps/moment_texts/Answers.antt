use Rattle.std.proofs.Common.{◌≡◌, ◌∙◌, ◌++◌, sym, false, ap, w64, to_z-of_z, FitsSigned}
use Rattle.std.specs.Prelude.{Some}
use Rattle.jiff_fmt.specs.Text.{datetime_text}
use Rattle.udfs_osta.proofs.MomentTexts.{ended_text-shown}
use Rattle.udfs_osta.proofs.stamps.moment_texts.Goals as goal

pub returns : goal.returns
returns c =
    let dt = c.in-Some.civil in
    let fits : FitsSigned w64 c.args.micros = c.ranges.micros in
    let within = simp to_z-of_z at c.in-Some.ensures.0 in
    let same = simp to_z-of_z at c.in-Some.ensures.1 in
    let first = datetime_text false 84 (Some 6) dt in
    let whole = ended_text-shown c.args.micros c.args.ending.now dt within same in
    let text_is : c.datetime_text-shown.result.bytes ≡ first =
    c.datetime_text-shown.ensures
    ∙ ap (λ o. datetime_text o.0 o.1 o.2 c.to_plain.result) c.precision.ensures
    ∙ ap (λ o. datetime_text o.0 o.1 (Some 6) c.to_plain.result) c.new-2.ensures
    ∙ ap (datetime_text false 84 (Some 6)) c.to_plain.ensures in
    ap (λ x. x ++ c.args.ending.now) text_is ∙ sym whole
