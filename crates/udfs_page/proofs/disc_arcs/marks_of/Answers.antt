use Rattle.std.proofs.Common.{arith, get_or, length}
use Rattle.udfs_page.specs.Arcs.{arc_length, mark_of}
use Rattle.udfs_page.proofs.Counts.{range_more}
use Rattle.udfs_page.proofs.disc_arcs.marks_of.Goals as goal

pub loop-index-preserved : goal.loop-index-preserved
loop-index-preserved c =
    let ks = c.args.known.now in
    record {
      count = c.loop-index.invariant.count;
      within = omega (arith, c.loop-index-test.true);
      marks = range_more (λ i. mark_of (get_or ks i 0) (get_or c.args.conflicts.now i 0) (get_or c.args.needed.now i 0) (arc_length (length ks) c.args.blocks i))
          c.loop-index.marks.items c.push.new.self.items c.loop-index.index c.mark_at.result c.in_ok-push.ensures.items c.mark_at.ensures c.loop-index.invariant.marks;
    }
