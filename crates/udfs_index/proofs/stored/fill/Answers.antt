use Rattle.std.proofs.Common.{arith, rules}
use Rattle.udfs_index.proofs.CursorLemmas.{filled_more}
use Rattle.udfs_index.proofs.stored.fill.Goals as goal

pub loop-filled-preserved : goal.loop-filled-preserved
loop-filled-preserved g c =
    record {
      within = search rules;
      value = filled_more (g.S.Stored.content c.args.stored.now) c.args.at c.loop-filled.filled _ c.in_ok-count.count c.loop-filled.buf c.read_at.new.buf c.loop-filled.invariant.value c.in_ok-count.ensures.value (omega arith) c.in_ok-count.ensures.bound;
    }
