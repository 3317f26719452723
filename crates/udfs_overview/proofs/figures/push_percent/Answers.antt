use Rattle.std.proofs.Common.{arith, ◌≡◌, ◌++◌, sym, subst}
use Rattle.std.specs.Prelude.{OnOk}
use Rattle.std.proofs.Math.Nat.{div-le_self}
use Rattle.std.specs.String.{string_bytes}
use Rattle.udfs_overview.proofs.Rounding.{percent_above}
use Rattle.udfs_overview.proofs.figures.push_percent.Goals as goal

pub returns : goal.returns
returns c =
    let old = string_bytes c.args.text.now in
    let same = percent_above c.args.part c.args.whole c.thousandths-tenths.result c.requires c.thousandths-tenths.ensures.value
    (omega (arith, div-le_self c.args.part c.args.whole, c.ranges.part.fits, c.thousandths-tenths.ensures.most)) (omega (arith, c.if-times-eq0.false)) in
    subst (λ x. OnOk c.write-2.result (string_bytes c.write-2.new.self ≡ old ++ x)) (sym same) c.write-2.ensures.bytes
