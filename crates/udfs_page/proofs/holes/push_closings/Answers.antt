use Rattle.std.specs.String.{string_bytes}
use Rattle.udfs_page.proofs.Closings.{closings_more, closings_none}
use Rattle.udfs_page.proofs.holes.push_closings.Goals as goal

pub loop-init : goal.loop-init
loop-init c = closings_none (string_bytes c.args.text.now)

pub loop-preserved : goal.loop-preserved
loop-preserved c =
    closings_more c.loop.counter (string_bytes c.args.text.now) (string_bytes c.loop.text) (string_bytes c.push_markup.new.text) c.loop.invariant c.in_ok-push_markup.ensures
