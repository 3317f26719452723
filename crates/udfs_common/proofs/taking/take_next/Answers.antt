use Rattle.std.proofs.Common.{◌∙◌, inl, inr, sym, ⊎_elim}
use Rattle.std.proofs.lemmas.Bool.{true≢false}
use Rattle.udfs_common.proofs.TakingLemmas.{alone_by, compared_is}
use Rattle.udfs_common.proofs.taking.take_next.Goals as goal

pub returns-in-Ok-clause-table : goal.returns-in-Ok-clause-table
returns-in-Ok-clause-table g c = alone_by (λ so. tt) c.in-Ok.ensures.table

pub returns-in-Err-clause-blamed : goal.returns-in-Err-clause-blamed
returns-in-Err-clause-blamed g c =
    let pair = (compared_is c.args.paths.now c.args.place c.args.force (sym c.is_compared.ensures ∙ c.if-is_compared.true)).1 in
    ⊎_elim (λ memory. inl memory) (⊎_elim (λ alone. inr (inl alone)) (λ other. inr (inr (pair, other.1)))) c.in-Err.ensures.blamed

pub returns-in-Ok-take_alone-clause-table : goal.returns-in-Ok-take_alone-clause-table
returns-in-Ok-take_alone-clause-table g c = alone_by (λ so. true≢false (sym so ∙ sym c.is_compared.ensures ∙ c.if-is_compared.false)) c.in-Ok-take_alone.ensures.table

pub returns-in-Err-take_alone-clause-blamed : goal.returns-in-Err-take_alone-clause-blamed
returns-in-Err-take_alone-clause-blamed g c = inr (inl c.in-Err-take_alone.ensures.blamed)
