use Rattle.udfs_salvage.specs.Texts.{reread_line}
use Rattle.udfs_reading.proofs.PrintingPublicLaws.{puts_none, puts_piece}
use Rattle.udfs_salvage.proofs.lines.put_rereads.Goals as goal

pub loop-block-init : goal.loop-block-init
loop-block-init g c told = puts_none _ _

pub loop-block-preserved : goal.loop-block-preserved
loop-block-preserved g c told =
    puts_piece (reread_line (g.B.BlockStore.states c.args.blocks.now)) c.args.numbers.now c.loop-block.block-index 0 c.loop-block-test.true (c.loop-block.invariant told) (c.put_reread.ensures told)
