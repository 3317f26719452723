use Rattle.udfs_salvage.specs.Texts.{block_text}
use Rattle.udfs_reading.proofs.PrintingPublicLaws.{puts_none, puts_piece}
use Rattle.udfs_salvage.proofs.lines.put_blocks.Goals as goal

pub loop-block-init : goal.loop-block-init
loop-block-init g c = puts_none _ _

pub loop-block-preserved : goal.loop-block-preserved
loop-block-preserved g c =
    puts_piece block_text c.args.blocks.now c.loop-block.block-index 0 c.loop-block-test.true c.loop-block.invariant c.put_block.ensures
