-- The partition of a reference.
use Rattle.std.proofs.Common.{◌≡◌, refl, sym, ◌∙◌, ap, subst, ℕ, ◌<◌, ◌≤◌, [], ◌∷◌, length, arith, slice_index_or, slice_get, Option, Some, None}
use Rattle.std.specs.Prelude.{zero, suc}
use Rattle.udfs_space.specs.Parts.{IsSound}
use Rattle.udfs_space.specs.Places.{place, place_by, place_in}
use Rattle.udfs_space.specs.Sparing.{Space, Spans, Span}

at : (ss : Spans) (r : ℕ) (s : Span) → r < length ss → s ≡ slice_index_or ss r s → slice_get ss r ≡ Some s
at [] r s l e = absurd (let z : ⊥ = omega (arith, l) in z)
at (x ∷ ss) zero s l e = ap Some (sym e)
at (x ∷ ss) (suc r) s l e = at ss r s (omega (arith, l)) e

beyond : (ss : Spans) (r : ℕ) → length ss ≤ r → slice_get ss r ≡ None
beyond [] r l = refl
beyond (x ∷ ss) zero l = absurd (let z : ⊥ = omega (arith, l) in z)
beyond (x ∷ ss) (suc r) l = beyond ss r (omega (arith, l))

-- the slice that the code looks into
pub got : (ds ss : Spans) (i r : ℕ) (s : Span) → ds ≡ ss → i ≡ r → i < length ds → s ≡ slice_index_or ds i s → slice_get ss r ≡ Some s
got ds ss i r s d e l h = sym (λ j. slice_get (d j) (e j)) ∙ at ds i s l h

pub missed : (ds ss : Spans) (i r : ℕ) → ds ≡ ss → i ≡ r → length ds ≤ i → slice_get ss r ≡ None
missed ds ss i r d e l = sym (λ j. slice_get (d j) (e j)) ∙ beyond ds i l

pub place-got : (ss : Space) (r b : ℕ) (s : Span) (p : Option ℕ) → slice_get ss.spans r ≡ Some s → p ≡ place_in s b → p ≡ place ss r b
unfolding place
place-got ss r b s p g e = e ∙ sym (ap (λ o. place_by o b) g)

pub place-missed : (ss : Space) (r b : ℕ) → slice_get ss.spans r ≡ None → None ≡ place ss r b
unfolding place
place-missed ss r b g = sym (ap (λ o. place_by o b) g)

pub sound-got : (ss : Spans) (r : ℕ) (s : Span) → slice_get ss r ≡ Some s → IsSound s → (t : Span) → slice_get ss r ≡ Some t → IsSound t
sound-got ss r s g h t e = let q : s ≡ t = some_same s t (sym g ∙ e) in subst IsSound q h
  where
    some_same : (x y : Span) → Some x ≡ Some y → x ≡ y
    some_same x y q = cc

pub sound-missed : (ss : Spans) (r : ℕ) → slice_get ss r ≡ None → (t : Span) → slice_get ss r ≡ Some t → IsSound t
sound-missed ss r g t e = absurd (let z : None ≡ Some t = sym g ∙ e in let y : ⊥ = cc in y)
