use Rattle.std.proofs.lemmas.Result.{err_from_is_err_and}
use Rattle.std.proofs.Common.{arith, sym}
use Rattle.udfs_rescue.proofs.ImageText.{image_none, image_more, image_fails, image_all}
use Rattle.udfs_rescue.proofs.imaging.write_blocks.Goals as goal

pub loop-block-init : goal.loop-block-init
loop-block-init g c = image_none (g.W.Sink.stream c.args.sink.now) c.args.out.now c.args.table.now c.args.last

pub loop-block-preserved : goal.loop-block-preserved
loop-block-preserved g c = image_more c.loop-block.invariant (omega (arith, c.loop-block-test.true)) (rw (sym c.state.ensures.state) c.in_ok-write_block.ensures)

pub returns-in_err-write_block : goal.returns-in_err-write_block
returns-in_err-write_block g c =
    let p = err_from_is_err_and c.from_residual.result c.from_residual.ensures.1 in
    rw p.1 (image_fails c.loop-block.invariant (omega (arith, c.loop-block-test.true)) (rw (sym c.state.ensures.state) c.in_err-write_block.ensures))

pub returns : goal.returns
returns g c = image_all c.loop-block.invariant (omega (arith, c.loop-block-test.false))
