use Rattle.std.proofs.Common.{◌∙◌}
use Rattle.udfs_rescue.proofs.Giving.{at_start}
use Rattle.udfs_rescue.proofs.pair.Pair.new.Goals as goal

pub returns-clause-bytes : goal.returns-clause-bytes
returns-clause-bytes g c =
    at_start (g.I.Image.bytes c.args.image) c.header-pending.result c.in_ok-piece.piece c.new-2.result c.args.known c.count.result
    c.count.ensures.value c.header-pending.ensures c.in_ok-piece.ensures (c.new-2.ensures ∙ c.into_ranges.ensures.value)
