use Rattle.std.proofs.Common.{inl, inr, ⊎_elim}
use Rattle.udfs_common.proofs.TakingLemmas.{apart_other, apart_taken}
use Rattle.udfs_common.proofs.taking.take_apart.Goals as goal

pub returns-in-Ok-join_own-clause-table : goal.returns-in-Ok-join_own-clause-table
returns-in-Ok-join_own-clause-table g c source only = apart_taken _ source _ _ _ _ (c.in-Ok.ensures.table source only) c.new-own.ensures c.in-Ok-join_own.ensures.table c.in-Ok-join_own.ensures.one

pub returns-in-Err-clause-blamed : goal.returns-in-Err-clause-blamed
returns-in-Err-clause-blamed g c = inr (inl c.in-Err.ensures.blamed)

pub returns-clause-blamed : goal.returns-clause-blamed
returns-clause-blamed g c =
    ⊎_elim (λ memory. inl (memory, c.in-Ok.ensures.counts)) (λ other. inr (inr (tt, λ source only. apart_other _ source _ _ _ c.args.number _ (c.in-Ok.ensures.table source only) c.new-own.ensures other))) c.in-Err-join_own.ensures.blamed
