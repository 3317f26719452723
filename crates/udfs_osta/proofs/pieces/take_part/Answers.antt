use Rattle.udfs_osta.proofs.Showing.{encoded_front, encoded_plain}
use Rattle.udfs_osta.proofs.pieces.take_part.Goals as goal

pub returns-then-count-eq0-clause-bytes : goal.returns-then-count-eq0-clause-bytes
returns-then-count-eq0-clause-bytes c = rw (c.take_front.ensures.bytes, c.take_front.ensures.count) (encoded_front c.args.units.now c.requires)

pub returns-clause-bytes : goal.returns-clause-bytes
returns-clause-bytes c =
    rw c.take_plain-count.ensures.bytes (encoded_plain c.take_plain-count.result c.args.units.now c.take_plain-count.ensures.fits c.take_plain-count.ensures.plain)
