use Rattle.udfs_lawfulness.proofs.Rows.{row_step}
use Rattle.udfs_lawfulness.proofs.tables.push_row.Goals as goal

pub loop-n-preserved : goal.loop-n-preserved
loop-n-preserved c = rw c.in_ok-push.ensures.items (row_step c.loop-n.numbers.items c.loop-n.n c.args.end _ c.loop-n-test.true c.loop-n.invariant)
