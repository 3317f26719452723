-- Why inputs were not opened.
use Rattle.std.proofs.Common.{◌≡◌, ◌⊎◌, ◌+◌, inl, inr, alloc_error, ℕ, List, Option, Some, slice_get}
use Rattle.udfs_common.specs.Blaming.{InputsRefused, IsShut, MayBeShut}
use Rattle.udfs_common.specs.declared.refusal.Refusal.{Refusal}
use Rattle.udfs_common.specs.declared.refusal.Refusal.TheVariants.{Memory, Open}
use Rattle.udfs_common.specs.declared.sources.AnySource.{AnySource}
use Rattle.udfs_words.specs.declared.input_path.InputPath.{InputPath}

-- the input at this place is shut, or memory was refused
pub shut_at : {R I : Type 0} (found : List ℕ → Option (Option (List ℕ))) (shut : List ℕ → Type 0) (remaining : AnySource R I → Option (List ℕ)) (faults : AnySource R I → ℕ) (paths : List InputPath) (k : ℕ) (path : InputPath) (refusal : Refusal) →
    slice_get paths k ≡ Some path → (refusal ≡ Memory alloc_error) ⊎ ((refusal ≡ Open (k + 1)) × MayBeShut shut path) → InputsRefused found shut remaining faults paths refusal
shut_at found shut remaining faults paths k path refusal stands (inl memory) = record { why = inl memory }
shut_at found shut remaining faults paths k path refusal stands (inr named) = record { why = inr (inl (record { place = k; path = path; stands = stands; may = named.1; named = named.0 })) }

-- the same of an input that is read at positions
pub stored_shut_at : (shut : List ℕ → Type 0) (paths : List InputPath) (k : ℕ) (path : InputPath) (refusal : Refusal) →
    slice_get paths k ≡ Some path → (refusal ≡ Memory alloc_error) ⊎ ((refusal ≡ Open (k + 1)) × MayBeShut shut path) → (refusal ≡ Memory alloc_error) ⊎ IsShut shut paths refusal
stored_shut_at shut paths k path refusal stands (inl memory) = inl memory
stored_shut_at shut paths k path refusal stands (inr named) = inr (record { place = k; path = path; stands = stands; may = named.1; named = named.0 })
