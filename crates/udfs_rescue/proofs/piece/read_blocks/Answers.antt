use Rattle.std.proofs.Common.{◌*◌, arith, length-take}
use Rattle.udfs_rescue.proofs.Giving.{loaded_ok}
use Rattle.udfs_rescue.proofs.piece.read_blocks.Goals as goal

pub returns-clause-value : goal.returns-clause-value
returns-clause-value g c = loaded_ok c.fill.result (g.I.Image.bytes c.args.image.now) c.args.first c.args.count (c.args.first * 2048) c.fill.new.buf _ (omega arith) (omega (arith, c.requires.room, length-take (c.args.count * 2048) c.args.bytes.now)) c.fill.ensures.value
