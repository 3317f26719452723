use Rattle.udfs_salvage.specs.NodeTexts.{unnamed_text}
use Rattle.udfs_reading.proofs.PrintingPublicLaws.{puts_none}
use Rattle.udfs_salvage.proofs.Putting.{puts_item}
use Rattle.udfs_salvage.proofs.node_printing.put_all_unnamed.Goals as goal

pub loop-entry-init : goal.loop-entry-init
loop-entry-init g c = puts_none _ _

pub loop-entry-preserved : goal.loop-entry-preserved
loop-entry-preserved g c =
    puts_item (unnamed_text c.args.two) c.args.entries.now c.loop-entry.entry-index c.entry-item.result c.loop-entry-test.true c.entry-item.is c.loop-entry.invariant c.put_unnamed.ensures
