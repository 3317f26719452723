use Rattle.std.proofs.Common.{◌∙◌, arith}
use Rattle.udfs_tables.proofs.PastEnds.{least_past, none_yet, nothing_past, one_more}
use Rattle.udfs_tables.proofs.imaged.past_end.Goals as goal

pub loop-block-init : goal.loop-block-init
loop-block-init c = none_yet c.args.table.now c.args.last c.into_iter-block-iterator.result
    (c.into_iter-block-iterator.ensures.into_iter_gives ∙ c.entries-block-items.ensures.entries)

pub returns-then-block-last : goal.returns-then-block-last
returns-then-block-last c = least_past c.args.table.now c.args.last c.loop-block.block-iterator c.next.new.self _ c.entries-block-items.ensures.table c.loop-block.invariant c.in-Some.ensures.steps (omega (arith, c.if-block-last.true))

pub loop-block-preserved : goal.loop-block-preserved
loop-block-preserved c = one_more _ c.loop-block.invariant c.in-Some.ensures.steps (omega (arith, c.if-block-last.false))

pub returns : goal.returns
returns c = nothing_past c.args.table.now c.args.last c.loop-block.block-iterator c.entries-block-items.ensures.table c.loop-block.invariant c.in-None.ensures.steps.0
