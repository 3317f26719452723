use Rattle.udfs_salvage.specs.NodeTexts.{hole_line}
use Rattle.udfs_reading.proofs.PrintingPublicLaws.{puts_none, puts_piece}
use Rattle.udfs_salvage.proofs.node_printing.put_holes.Goals as goal

pub loop-hole-init : goal.loop-hole-init
loop-hole-init g c = puts_none _ _

pub loop-hole-preserved : goal.loop-hole-preserved
loop-hole-preserved g c =
    puts_piece hole_line c.args.holes.now c.loop-hole.hole-index _ c.loop-hole-test.true c.loop-hole.invariant c.put_hole.ensures
