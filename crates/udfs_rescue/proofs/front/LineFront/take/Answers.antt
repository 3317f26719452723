use Rattle.std.proofs.Common.{◌∙◌, arith}
use Rattle.udfs_rescue.proofs.FrontLemmas.{front_more, front_full}
use Rattle.udfs_rescue.proofs.front.LineFront.take.Goals as goal

pub returns-in_ok-push : goal.returns-in_ok-push
returns-in_ok-push c = λ line e. c.in_ok-push.ensures.items ∙ front_more c.args.self.now.kept.items line c.args.byte (omega (arith, c.if-len-lt68.true, c.len.ensures)) e

pub returns-else-len-lt68 : goal.returns-else-len-lt68
returns-else-len-lt68 c = λ line e. front_full c.args.self.now.kept.items line c.args.byte (omega (arith, c.if-len-lt68.false, c.len.ensures)) e
