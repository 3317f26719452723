use Rattle.std.proofs.Common.{◌≤◌, ◌<◌, ◌-◌, ◌+◌, ◌∙◌, ap, subst, length, drop, nat_le}
use Rattle.udfs_file.specs.Stretches.{cells_of}
use Rattle.udfs_file.proofs.CellLemmas.{held_first, held_on, held_none}
use Rattle.udfs_file.proofs.cells.hold.Goals as goal

pub returns-then-left-count : goal.returns-then-left-count
returns-then-left-count c = λ v. held_first v c.args.stretches.now c.loop-stretch.stretch-index c.loop-stretch.left _ c.loop-stretch-test.true
    (subst (λ n. c.loop-stretch.left ≤ n) c.count.ensures c.if-left-count.true) ∙ c.loop-stretch.invariant v

pub loop-stretch-preserved : goal.loop-stretch-preserved
loop-stretch-preserved c = λ v. ap (λ n. nat_le (c.loop-stretch.left - n) (length (cells_of v (drop (c.loop-stretch.stretch-index + 1) c.args.stretches.now)))) c.count-left.ensures
    ∙ held_on v c.args.stretches.now c.loop-stretch.stretch-index c.loop-stretch.left _ c.loop-stretch-test.true (subst (λ n. n < c.loop-stretch.left) c.count.ensures c.if-left-count.false)
    ∙ c.loop-stretch.invariant v

pub returns : goal.returns
returns c = λ v. held_none v c.args.stretches.now c.loop-stretch.stretch-index c.loop-stretch.left c.loop-stretch-test.false ∙ c.loop-stretch.invariant v
