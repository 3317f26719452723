-- The error for a path that is no node's comes before anything is made.
use Rattle.std.proofs.Common.{◌≡◌, ◌∙◌, ℕ, List, None, Option, Some, alloc_error, inl, inr, sym}
use Rattle.std.specs.Prelude.{MatchOption}
use Rattle.udfs_common.specs.Refusing.{IsUnput}
use Rattle.udfs_common.specs.declared.refusal.Refusal.{Refusal}
use Rattle.udfs_common.specs.declared.refusal.Refusal.TheVariants.{Memory, NoNode, Output, Unkept}

unput : (Failed : Type 0) (refusal : Refusal) (i : ℕ) → refusal ≡ NoNode i → IsUnput Failed refusal → ⊥
unput Failed refusal i is (inl memory) = let bad : NoNode i ≡ Memory alloc_error = sym is ∙ memory in cc
unput Failed refusal i is (inr (inl output, failed)) = let bad : NoNode i ≡ Output = sym is ∙ output in cc
unput Failed refusal i is (inr (inr unkept, failed)) = let bad : NoNode i ≡ Unkept = sym is ∙ unkept in cc

-- where a manifest was not put it is another
pub unput_at : (Failed : Type 0) (Stays : List ℕ → Type 0) (place : Option (List ℕ)) (refusal : Refusal) (i : ℕ) → refusal ≡ NoNode i → MatchOption place ⊥ (λ there. IsUnput Failed refusal × Stays there) → ⊥
unput_at Failed Stays None refusal i is never = never
unput_at Failed Stays (Some there) refusal i is why = unput Failed refusal i is why.0
