use Rattle.std.proofs.Common.{◌+◌, ◌<◌, ◌∙◌, arith, nat_lt}
use Rattle.udfs_space.proofs.Pasts.{past_is}
use Rattle.udfs_space.proofs.spaces.Space.is_past.Goals as goal

pub returns-then-count-ne0 : goal.returns-then-count-ne0
returns-then-count-ne0 c =
    let some : 0 < c.args.count = omega (arith, c.if-count-ne0.true) in
    (λ i. nat_lt ((c.from-then-count-ne0-2.ensures ∙ c.size.ensures.value) i) (c.from.ensures i + c.from-then-count-ne0.ensures i))
    ∙ past_is c.args.self.now c.args.address.reference c.args.address.block c.args.count some
