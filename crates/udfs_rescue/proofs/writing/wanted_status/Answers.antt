use Rattle.std.proofs.Common.{Ok, Err, inl, inr, sym, arith}
use Rattle.std.proofs.lemmas.Bool.{cases_lt}
use Rattle.std.proofs.lemmas.List.Sorted.{searched}
use Rattle.udfs_rescue.proofs.MapText.{found, not_found}
use Rattle.udfs_rescue.proofs.writing.wanted_status.Goals as goal

pub returns-in-Ok : goal.returns-in-Ok
returns-in-Ok c =
    let at = searched c.args.wanted.now c.args.block (Ok c.in-Ok.field-0) c.in-Ok.ensures.position (λ i j below within. c.requires i j 0 below within) in
    sym (found c.args.wanted.now c.in-Ok.field-0 c.args.block at.0 at.1)

pub returns-in-Err : goal.returns-in-Err
returns-in-Err c =
    let at = searched c.args.wanted.now c.args.block (Err c.in-Err.field-0) c.in-Err.ensures.position (λ i j below within. c.requires i j 0 below within) in
    sym (not_found c.args.wanted.now c.args.block (λ k within is. elim (cases_lt k c.in-Err.field-0) [ inl before ↦ omega (arith, is, at.1 k before) | inr after ↦ omega (arith, is, at.2 k after within) ]))
