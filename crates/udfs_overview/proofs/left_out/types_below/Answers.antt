use Rattle.std.proofs.Common.{◌∙◌, ap, nat_eq, sym, ℕ, Bool}
use Rattle.std.specs.List.{list_any}
use Rattle.udfs_overview.proofs.Chains.{passed_no, passed_yes}
use Rattle.udfs_overview.proofs.left_out.types_below.Goals as goal
use Rattle.udfs_overview.proofs.left_out.types_below.Goals.{then-contains+in_ok-push, else-contains}

pub loop-number-preserved : goal.loop-number-preserved
loop-number-preserved c = let p : ℕ → Bool = λ t. list_any (λ u. nat_eq u t) c.args.types.now in
    elim c.if-contains.branch [
      | then-contains+in_ok-push w ↦ passed_yes p c.loop-number.number _ _ c.loop-number.invariant (sym c.contains.ensures.value ∙ w.if-contains.true) (ap (λ x. x.items) w.found-is ∙ w.in_ok-push.ensures.items)
      | else-contains w ↦ passed_no p c.loop-number.number _ _ c.loop-number.invariant (sym c.contains.ensures.value ∙ w.if-contains.false) (ap (λ x. x.items) w.found-is)
    ]
