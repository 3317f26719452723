use Rattle.std.proofs.Common.{◌≡◌, ◌≤◌, ◌∙◌, arith, sym}
use Rattle.udfs_lattice.specs.declared.facts.Fact.TheVariants.{Conflict, Known, Unknown}
use Rattle.udfs_remarks.proofs.IndexStates.{least_past, none_behind, one_more, unsaid}
use Rattle.udfs_remarks.proofs.index_blocks.IndexBlocks.least_behind.Goals as goal

pub loop-block-init : goal.loop-block-init
loop-block-init g c = record { behind = omega arith; none = λ told n past lt. absurd (omega (arith, past, lt)) }

pub loop-block-preserved : goal.loop-block-preserved
loop-block-preserved g c =
    let behind = c.loop-block.invariant.behind in
    record { behind = omega (arith, behind); none = λ told. one_more _ c.args.last c.loop-block.block (c.loop-block.invariant.none told) (sym (c.in-Unknown.ensures told)) }

pub returns-in-Known : goal.returns-in-Known
returns-in-Known g c told = least_past _ c.args.last c.loop-block.block c.loop-block.invariant.behind (c.loop-block.invariant.none told) (λ none. let bad : Known tt ≡ Unknown = c.in-Known.ensures told ∙ none in cc)

pub returns-in-Conflict : goal.returns-in-Conflict
returns-in-Conflict g c told = least_past _ c.args.last c.loop-block.block c.loop-block.invariant.behind (c.loop-block.invariant.none told) (λ none. let bad : Conflict ≡ Unknown = c.in-Conflict.ensures told ∙ none in cc)

pub returns : goal.returns
returns g c told =
    let end : c.end-block-end.result ≤ c.loop-block.block = omega (arith, c.loop-block-test.false) in
    none_behind _ c.args.last c.loop-block.block (c.loop-block.invariant.none told) (λ n far lt. unsaid _ _ n (c.end-block-end.ensures.rest n (omega (arith, end, far)) lt))
