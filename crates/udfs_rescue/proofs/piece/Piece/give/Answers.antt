use Rattle.std.proofs.Common.{◌++◌, ◌-◌, take, drop, ap, arith, ◌∙◌}
use Rattle.udfs_reading.specs.Format.{number}
use Rattle.udfs_rescue.proofs.Giving.{given_record}
use Rattle.udfs_rescue.proofs.piece.Piece.give.Goals as goal

pub returns-clause-some : goal.returns-clause-some
returns-clause-some c = λ so.
    given_record c.self.inside.block c.self.inside.count (c.self.inside.count - 1) c.self.inside.start c.self.inside.bytes.items c.hold.new.self c.args.self.now c.self.view_is (omega arith)
    (c.hold.ensures ∙ ap (λ l. number c.self.inside.block ++ l) (c.chunk_at.ensures ∙ ap (λ l. take 2048 (drop c.self.inside.start l)) c.deref.ensures.value))

pub returns-clause-held : goal.returns-clause-held
unfolding number
returns-clause-held c = λ so none. let e = c.hold.ensures in cc
