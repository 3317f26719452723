use Rattle.std.proofs.Common.{◌∷◌, [], ◌++◌, true, subst, sym}
use Rattle.std.proofs.lemmas.Bool.{ne_eqb}
use Rattle.udfs_rescue.specs.BlockLists.{TellsLine}
use Rattle.udfs_rescue.proofs.ListLines.{took_return, took_other}
use Rattle.udfs_rescue.proofs.list.ListLine.take.Goals as goal

pub returns-then-byte-eq13 : goal.returns-then-byte-eq13
returns-then-byte-eq13 c = λ line h.
    subst (λ b. TellsLine c.count_return.new.self.empty c.count_return.new.self.number true (line ++ b ∷ [])) (sym c.if-byte-eq13.true)
    (took_return c.count_return.new.self.empty c.count_return.new.self.number line (c.count_return.ensures line h))

pub returns : goal.returns
returns c = λ line h.
    took_other c.args.byte c.with_digit-self.result line (ne_eqb c.args.byte 13 c.if-byte-eq13.false) (c.with_digit-self.ensures line ((c.count_return.ensures line h).1))
