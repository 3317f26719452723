-- Why an output could not be looked at, and that nothing is told as done where it may not be written.
use Rattle.std.proofs.Common.{◌≡◌, ◌≢◌, ◌⊎◌, ◌∙◌, ℕ, List, alloc_error, inl, inr, sym}
use Rattle.udfs_common.specs.Guarding.{MayNotBeSeen, SomeShut}
use Rattle.udfs_common.specs.declared.refusal.Refusal.{Refusal}
use Rattle.udfs_common.specs.declared.refusal.Refusal.TheVariants.{Memory, Output, Spared, Unkept}
use Rattle.udfs_common.proofs.NamingLemmas.{memory_early}

-- why an output could not be looked at, in the order of its definition
pub unseen : (shut : List ℕ → Type 0) (Failed : Type 0) (files parts : List (List ℕ)) (out : List ℕ) → shut out ⊎ SomeShut shut parts ⊎ SomeShut shut files ⊎ Failed → MayNotBeSeen shut Failed files parts out
unseen shut Failed files parts out (inl own) = inl own
unseen shut Failed files parts out (inr (inl some)) = inr (inr (inl some))
unseen shut Failed files parts out (inr (inr (inl some))) = inr (inl some)
unseen shut Failed files parts out (inr (inr (inr failed))) = inr (inr (inr failed))

-- the output may not be written
pub out_early : {Stays Unseen Inputs More : Type 0} (r : Refusal) → (r ≡ Memory alloc_error) ⊎ ((r ≡ Spared) × Stays) ⊎ ((r ≡ Output) × Unseen) ⊎ (Inputs × (r ≢ Unkept) × More) → r ≢ Unkept
out_early r (inl memory) = memory_early r memory
out_early r (inr (inl spared)) = λ e. let bad : Spared ≡ Unkept = sym spared.0 ∙ e in cc
out_early r (inr (inr (inl unseen))) = λ e. let bad : Output ≡ Unkept = sym unseen.0 ∙ e in cc
out_early r (inr (inr (inr inputs))) = inputs.1
