use Rattle.std.proofs.Common.{◌+◌, ◌*◌, ◌-◌, ◌∙◌, ap, drop}
use Rattle.udfs_volume.specs.Layout.{bp}
use Rattle.udfs_space.specs.Sparing.{sparing_entry_of}
use Rattle.udfs_space.proofs.Loops.{map-step}
use Rattle.udfs_space.proofs.entries.entries.Goals as goal

pub loop-i-preserved : goal.loop-i-preserved
loop-i-preserved c = rw c.in_ok-push.ensures.items (map-step (λ i. sparing_entry_of (drop (bp (56 + 8 * i)) c.args.content.now)) _ _ c.loop-i.i c.args.count _ c.loop-i-test.true
    (c.read.ensures ∙ ap sparing_entry_of (c.behind.ensures.value ∙ ap (λ i. drop (56 + 8 * i - 16) c.args.content.now) c.from.ensures)) c.loop-i.invariant)
