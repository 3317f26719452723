use Rattle.std.proofs.Common.{get_or, length}
use Rattle.std.specs.String.{string_bytes}
use Rattle.udfs_page.specs.Spirals.{arc_text}
use Rattle.udfs_page.specs.declared.disc_arcs.Mark.TheVariants.{Known}
use Rattle.udfs_page.proofs.Texts.{range_text_more}
use Rattle.udfs_page.proofs.spiral.push_spiral.Goals as goal

pub loop-index-preserved : goal.loop-index-preserved
loop-index-preserved c =
    let marks = c.args.marks.now in
    record {
      count = c.loop-index.invariant.count;
      text = range_text_more (λ i. arc_text (length marks) c.args.blocks i (get_or marks i Known)) c.loop-index.index (string_bytes c.args.text.now)
          (string_bytes c.loop-index.text) (string_bytes c.push_arc.new.text) c.loop-index.invariant.text c.in_ok-push_arc.ensures;
    }
