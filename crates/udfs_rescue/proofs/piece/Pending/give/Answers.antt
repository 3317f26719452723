use Rattle.std.proofs.Common.{sym, arith, length-take}
use Rattle.udfs_rescue.proofs.Giving.{given_view}
use Rattle.udfs_rescue.proofs.piece.Pending.give.Goals as goal

pub returns-clause-given : goal.returns-clause-given
returns-clause-given c =
    given_view c.self.inside.bytes c.copy_from_slice.new.self c.args.buf.now c.args.self.now c.self.inside.start c.self.inside.end c.min-count.result (sym c.self.view_is) (omega arith) (omega arith) c.copy_from_slice.ensures.after
    (omega (arith, c.copy_from_slice.ensures.len, length-take c.min-count.result c.args.buf.now))
