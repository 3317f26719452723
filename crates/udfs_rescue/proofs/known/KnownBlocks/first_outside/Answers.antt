use Rattle.std.proofs.Common.{◌/◌, subst, ap, ◌∙◌}
use Rattle.udfs_rescue.specs.Known.{AreBlocks, first_from}
use Rattle.udfs_rescue.proofs.Judged.{outside_some, outside_none}
use Rattle.udfs_rescue.proofs.known.KnownBlocks.first_outside.Goals as goal

pub returns-clause-some : goal.returns-clause-some
returns-clause-some c =
    outside_some c.args.self.now c.args.size c.first_from.result (subst AreBlocks c.self.view_is c.self.invariant.0)
    (c.first_from.ensures ∙ ap (λ l. first_from l (c.args.size / 2048)) (c.deref.ensures.value ∙ c.self.view_is))

pub returns-clause-none : goal.returns-clause-none
returns-clause-none c =
    outside_none c.args.self.now c.args.size c.first_from.result (subst AreBlocks c.self.view_is c.self.invariant.0)
    (c.first_from.ensures ∙ ap (λ l. first_from l (c.args.size / 2048)) (c.deref.ensures.value ∙ c.self.view_is))
