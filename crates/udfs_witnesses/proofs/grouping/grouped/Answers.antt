use Rattle.udfs_witnesses.proofs.Groups.{grouped_more}
use Rattle.udfs_witnesses.proofs.grouping.grouped.Goals as goal

pub loop-block-preserved : goal.loop-block-preserved
loop-block-preserved g c told =
    let x = grouped_more (g.B.BlockStore.states c.args.blocks.now) c.args.last c.args.size c.args.listed.now c.loop-block.block-index _ c.loop-block.next c.in_ok-next.next c.loop-block.asked.items c.add.new.asked.items
    (c.requires.rising told) c.loop-block-test.true (c.in_ok-next.ensures told) (c.loop-block.invariant told).grouped (c.loop-block.invariant told).next in
    record { grouped = x.0; next = x.1 }
