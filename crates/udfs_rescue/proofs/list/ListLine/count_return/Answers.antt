use Rattle.udfs_rescue.specs.BlockLists.{TellsLine}
use Rattle.std.proofs.Common.{subst}
use Rattle.udfs_rescue.proofs.ListLines.{counted_return, counted_none}
use Rattle.udfs_rescue.proofs.list.ListLine.count_return.Goals as goal

pub returns-then-self : goal.returns-then-self
returns-then-self c = λ line h. counted_return c.args.self.now.empty c.args.self.now.number line (subst (λ r. TellsLine c.args.self.now.empty c.args.self.now.number r line) c.if-self.true h)

pub returns-else-self : goal.returns-else-self
returns-else-self c = λ line h. counted_none c.args.self.now.empty c.args.self.now.number line (subst (λ r. TellsLine c.args.self.now.empty c.args.self.now.number r line) c.if-self.false h)
