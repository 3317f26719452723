use Rattle.std.proofs.Common.{◌+◌, arith, subst, sym, take}
use Rattle.udfs_witnesses.proofs.Rising.{never_falls, risen_more}
use Rattle.udfs_witnesses.specs.Adding.{IsNext}
use Rattle.udfs_witnesses.proofs.fronts.count_rising.Goals as goal

pub returns-then-number-next-clause-all : goal.returns-then-number-next-clause-all
returns-then-number-next-clause-all c rises =
    let same = c.from-number.ensures in let less = c.if-number-next.true in
    absurd (never_falls c.args.numbers.now c.loop-i.i 0 c.loop-i.next c.loop-i-test.true (omega (arith, same, less)) c.loop-i.invariant.next rises)

pub loop-i-preserved : goal.loop-i-preserved
loop-i-preserved c =
    let same = c.from-number.ensures in let le = c.if-number-next.false in
    let x = risen_more c.args.numbers.now c.loop-i.i 0 c.loop-i.next c.loop-i-test.true (omega (arith, same, le)) c.loop-i.invariant.rises c.loop-i.invariant.next in
    record { rises = x.0; next = subst (λ n. IsNext (take (c.loop-i.i + 1) c.args.numbers.now) (n + 1)) (sym same) x.1 }
