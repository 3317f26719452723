use Rattle.std.proofs.Common.{ap, ◌∙◌, ◌++◌}
use Rattle.udfs_salvage.proofs.ShortTexts.{end_short, stamp_short}
use Rattle.udfs_salvage.proofs.Putting.{puts_same, puts_with}
use Rattle.udfs_salvage.proofs.word_printing.put_stamp.Goals as goal

pub put-requires-2 : goal.put-requires-2
put-requires-2 g c = end_short _ c.texts-time.result.1.now _ c.texts-time.ensures (stamp_short c.args.stamp)

pub returns : goal.returns
returns g c =
    puts_same (ap (λ t. t ++ c.texts-time.result.1.now) c.as_str.ensures.value ∙ c.texts-time.ensures) (puts_with c.put.ensures c.put-2.ensures)
