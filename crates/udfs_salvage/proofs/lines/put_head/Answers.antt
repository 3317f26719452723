use Rattle.udfs_salvage.specs.Texts.{head_text_by}
use Rattle.udfs_salvage.proofs.Putting.{puts_with}
use Rattle.udfs_salvage.proofs.lines.put_head.Goals as goal

pub returns : goal.returns
unfolding head_text_by
returns g c told t holds = puts_with (puts_with (puts_with (puts_with c.put_first.ensures c.put_profile.ensures) (c.put_counts.ensures told t holds)) c.put_volume.ensures) c.put_label_of.ensures
