use Rattle.std.proofs.Common.{sym, ◌∙◌}
use Rattle.udfs_salvage.proofs.Putting.{upto_more, upto_same}
use Rattle.udfs_salvage.proofs.word_printing.put_escaped.Goals as goal

pub loop-count-preserved : goal.loop-count-preserved
loop-count-preserved g c =
    let next = c.next_piece-count-in-loop-count.ensures in
    record {
      put = upto_same next.bytes (upto_more c.loop-count.invariant.put c.put_bytes.ensures);
      room = next.room;
      end = λ z. sym next.bytes ∙ next.end z;
    }
