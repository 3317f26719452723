use Rattle.std.proofs.Common.{◌∙◌, inr, sym}
use Rattle.udfs_common.proofs.TakingLemmas.{one_by, other_by}
use Rattle.udfs_common.proofs.taking.join_own.Goals as goal

pub returns-then-is_other_disc-clause-blamed : goal.returns-then-is_other_disc-clause-blamed
returns-then-is_other_disc-clause-blamed g c =
    inr (λ t took. other_by t c.args.own.now c.table.result.now c.args.number _ _ (c.table.ensures t took) c.compare-found.ensures.blocks c.compare-found.ensures.of (sym c.is_other_disc.ensures ∙ c.if-is_other_disc.true))

pub returns-in-Ok-clause-one : goal.returns-in-Ok-clause-one
returns-in-Ok-clause-one g c t took = one_by t c.args.own.now c.table.result.now _ _ (c.table.ensures t took) c.compare-found.ensures.blocks c.compare-found.ensures.of (sym c.is_other_disc.ensures ∙ c.if-is_other_disc.false)
