-- Texts that go on behind a front.
use Rattle.std.proofs.lemmas.Bool.{cases_Bool}
use Rattle.std.proofs.lemmas.List.{append_cancel_left, take-append-drop}
use Rattle.std.proofs.lemmas.Slice.Eq.{bytes_eq-Decides}
use Rattle.std.proofs.Common.{◌≡◌, ◌<◌, inl, inr, ◌++◌, ◌∷◌, [], ℕ, suc, Bool, true, false, List, Some, None, ap, arith, drop, length, nat_eq, slice_get, slice_index_or, map, Bor, ◌==◌, refl, sym, ◌∙◌, subst, take, append_assoc}
use Rattle.std.specs.Prelude.{◌&&◌, zero}
use Rattle.std.specs.List.{list_all}
use Rattle.std.specs.Str.{bytes_eq}
use Rattle.udfs_salvage.specs.Choosing.{goes_on}

not_so : (b : Bool) → (b ≡ true → ⊥) → b ≡ false
not_so true never = absurd (never refl)
not_so false never = refl

-- the first bytes of a text behind a front
first_of : (front : List ℕ) (x : ℕ) (rest : List ℕ) → take (suc (length front)) (front ++ x ∷ rest) ≡ front ++ x ∷ []
first_of [] x rest = refl
first_of (y ∷ front) x rest = ap (λ l. y ∷ l) (first_of front x rest)

-- a text that goes on
pub on_behind : (front rest : List ℕ) → goes_on front (front ++ 47 ∷ rest) ≡ true
on_behind front rest = (bytes_eq-Decides _ _).1 (first_of front 47 rest)

-- and what it goes on with
pub goes_with : (front text : List ℕ) → goes_on front text ≡ true → text ≡ front ++ 47 ∷ drop (suc (length front)) text
goes_with front text on = sym (take-append-drop (suc (length front)) text) ∙ ap (λ l. l ++ drop (suc (length front)) text) ((bytes_eq-Decides _ _).0 on) ∙ append_assoc front (47 ∷ []) (drop (suc (length front)) text)

first_is : (x y : ℕ) (xs ys : List ℕ) → (x ∷ xs) ≡ (y ∷ ys) → x ≡ y
first_is x y xs ys e = cc

-- by the byte behind the front
pub goes_by : (front : List ℕ) (x : ℕ) (rest : List ℕ) → goes_on front (front ++ x ∷ rest) ≡ nat_eq x 47
goes_by front x rest = elim (cases_Bool (nat_eq x 47)) [
  | inl is ↦ let e : x ≡ 47 = grind arith in subst (λ y. goes_on front (front ++ y ∷ rest) ≡ true) (sym e) (on_behind front rest) ∙ sym is
  | inr is ↦ not_so _ (λ on. let e = append_cancel_left front _ _ (sym (first_of front x rest) ∙ (bytes_eq-Decides _ _).0 on) in let same = first_is x 47 [] [] e in absurd (grind (arith, same, is))) ∙ sym is
]

-- by the bytes behind the front
pub goes_rest : (front text rest : List ℕ) → bytes_eq (take (length front) text) front ≡ true → rest ≡ drop (length front) text → (length rest == 0) ≡ false → nat_eq (slice_index_or rest 0 0) 47 ≡ goes_on front text
goes_rest front text [] begins behind some = let bad : true ≡ false = some in cc
goes_rest front text (x ∷ rest) begins behind some = sym (goes_by front x rest) ∙ ap (λ t. goes_on front t) (ap (λ l. front ++ l) behind ∙ ap (λ l. l ++ drop (length front) text) (sym ((bytes_eq-Decides _ _).0 begins)) ∙ take-append-drop (length front) text)

front_of : (front rest : List ℕ) → take (length front) (front ++ rest) ≡ front
front_of [] rest = refl
front_of (x ∷ front) rest = ap (λ l. x ∷ l) (front_of front rest)

-- a text without the front does not go on behind it
pub goes_not : (front text : List ℕ) → bytes_eq (take (length front) text) front ≡ false → false ≡ goes_on front text
goes_not front text other = sym (not_so _ (λ on.
    let with_front : bytes_eq (take (length front) text) front ≡ true = (bytes_eq-Decides _ _).1 (ap (λ t. take (length front) t) (goes_with front text on) ∙ front_of front _) in
    let bad = sym with_front ∙ other in
    cc))

-- a word that was given, and its place
pub word_at : (words : List (Bor (List ℕ))) (k : ℕ) (other : Bor (List ℕ)) (word : List ℕ) → slice_get (map (λ (w : Bor (List ℕ)). w.now) words) k ≡ Some word → (slice_index_or words k other).now ≡ word
word_at [] k other word at = let bad : None ≡ Some word = at in absurd (let z : ⊥ = cc in z)
word_at (w ∷ words) zero other word at = let same : w.now ≡ word = cc in same
word_at (w ∷ words) (suc k) other word at = word_at words k other word at

-- a word at a place, and that it was given there
pub word_there : (words : List (Bor (List ℕ))) (k : ℕ) (other : Bor (List ℕ)) → k < length words → (word : List ℕ) × (slice_get (map (λ (w : Bor (List ℕ)). w.now) words) k ≡ Some word) × ((slice_index_or words k other).now ≡ word)
word_there [] k other below = absurd (omega (arith, below))
word_there (w ∷ words) zero other below = (w.now, refl, refl)
word_there (w ∷ words) (suc k) other below = word_there words k other (omega (arith, below))

-- what holds of the word at each place holds of all
pub all_by : (P : List ℕ → Bool) (words : List (List ℕ)) → ((k : ℕ) (word : List ℕ) → k < length words → slice_get words k ≡ Some word → P word ≡ true) → list_all P words ≡ true
all_by P [] each = refl
all_by P (word ∷ words) each = λ i. each zero word (omega arith) refl i && all_by P words (λ k other less at. each (suc k) other (omega (arith, less)) at) i
