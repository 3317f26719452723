use Rattle.std.proofs.Common.{arith, ◌≡◌, subst}
use Rattle.std.specs.Prelude.{OnOk}
use Rattle.std.specs.String.{string_bytes}
use Rattle.udfs_overview.proofs.Commas.{grouped_small, grouped_appended}
use Rattle.udfs_overview.proofs.figures.+push_grouped.Goals as goal

pub returns-then-number-lt1000 : goal.returns-then-number-lt1000
returns-then-number-lt1000 t c = rw (← grouped_small c.args.number c.if-number-lt1000.true) c.write.ensures.bytes

pub returns : goal.returns
returns t c =
    let old = string_bytes c.args.text.now in
    let middle = string_bytes c.push_grouped.new.text in
    subst (λ x. OnOk c.write-2.result (string_bytes c.write-2.new.self ≡ x))
    (grouped_appended old middle c.args.number (omega (arith, c.if-number-lt1000.false)) (omega (arith, c.ranges.number)) c.in_ok-push_grouped.ensures)
    c.write-2.ensures.bytes
