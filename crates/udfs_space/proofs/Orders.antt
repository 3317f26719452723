-- The originals of a sparing table, one after the other.
use Rattle.std.proofs.Common.{◌≡◌, refl, ℕ, ◌<◌, ◌≤◌, false, List, [], ◌∷◌, length, drop, ◌||◌, arith, slice_index_or}
use Rattle.std.specs.Prelude.{zero, suc}
use Rattle.udfs_space.specs.declared.entries.SparingEntry.{SparingEntry}
use Rattle.udfs_space.specs.Sparing.{breaks_order, is_out_of_order}

-- an entry and the next
pub order-step : (es : List SparingEntry) (j : ℕ) (d : SparingEntry) → suc j < length es
    → is_out_of_order (drop j es) ≡ (breaks_order (slice_index_or es j d) (slice_index_or es (suc j) d) || is_out_of_order (drop (suc j) es))
order-step [] j d h = absurd (let z : ⊥ = omega (arith, h) in z)
order-step (e ∷ []) j d h = absurd (let z : ⊥ = omega (arith, h) in z)
order-step (e ∷ f ∷ rest) zero d h = refl
order-step (e ∷ f ∷ rest) (suc j) d h = order-step (f ∷ rest) j d (omega (arith, h))

-- one entry at most is in order
pub order-end : (es : List SparingEntry) (j : ℕ) → length es ≤ suc j → is_out_of_order (drop j es) ≡ false
order-end [] zero h = refl
order-end [] (suc j) h = refl
order-end (e ∷ []) zero h = refl
order-end (e ∷ []) (suc zero) h = refl
order-end (e ∷ []) (suc (suc j)) h = refl
order-end (e ∷ f ∷ rest) zero h = absurd (let z : ⊥ = omega (arith, h) in z)
order-end (e ∷ f ∷ rest) (suc j) h = order-end (f ∷ rest) j (omega (arith, h))
