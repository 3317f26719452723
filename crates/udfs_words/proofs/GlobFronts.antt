-- How far each front of a list is reached.
use Rattle.std.proofs.Common.{◌≡◌, ◌↔◌, ◌∙◌, refl, ap, sym, ℕ, suc, zero, Bool, true, false, List, [], ◌∷◌, map, length, take}
use Rattle.std.specs.Prelude.{◌&&◌, ◌||◌}
use Rattle.std.specs.List.{list_any}
use Rattle.udfs_words.specs.Globs.{Any, One, Step, fits, name_step}
use Rattle.udfs_words.specs.GlobRows.{both, last_from, next_row, spread_from, unreached}

-- of a front, as far as it goes
front_both : {A : Type 0} (takes : A → Bool) (row : List Bool) (xs : List A) (k : ℕ) → both (take (suc k) row) (map takes (take k xs)) ≡ take k (both row (map takes xs))
front_both takes [] xs zero = refl
front_both takes [] xs (suc k) = refl
front_both takes (r ∷ row) xs zero = refl
front_both takes (r ∷ row) [] (suc k) = refl
front_both takes (r ∷ row) (x ∷ xs) (suc k) = ap (λ hits. (r && takes x) ∷ hits) (front_both takes row xs k)

front_spread : (b : Bool) (row : List Bool) (n : ℕ) → spread_from b (take n row) ≡ take n (spread_from b row)
front_spread b row zero = refl
front_spread b [] (suc n) = refl
front_spread b (r ∷ row) (suc n) = ap (λ more. (b || r) ∷ more) (front_spread (b || r) row n)

-- one more step
pub front_next : {A : Type 0} (s : Step A) (row : List Bool) (xs : List A) (k : ℕ) → take (suc k) (next_row s row xs) ≡ next_row s (take (suc k) row) (take k xs)
front_next Any row xs k = sym (front_spread false row (suc k))
front_next (One takes) row xs k = ap (λ hits. false ∷ hits) (sym (front_both takes row xs k))

-- a front has as many places
pub front_places : {A : Type 0} (row : List Bool) (xs : List A) (k : ℕ) → length row ≡ suc (length xs) → length (take (suc k) row) ≡ suc (length (take k xs))
front_places [] xs k h = absurd (let z : ⊥ = cc in z)
front_places (r ∷ row) xs zero h = refl
front_places (r ∷ []) [] (suc k) h = refl
front_places (r ∷ s ∷ row) [] (suc k) h = absurd (let z : ⊥ = cc in z)
front_places (r ∷ row) (x ∷ xs) (suc k) h = ap suc (front_places row xs k (let e : length row ≡ suc (length xs) = cc in e))

-- before any step
pub front_first : {A : Type 0} (xs : List A) (k : ℕ) → take k (unreached (length xs)) ≡ unreached (length (take k xs))
front_first xs zero = refl
front_first [] (suc k) = refl
front_first (x ∷ xs) (suc k) = ap (λ row. false ∷ row) (front_first xs k)

-- all of it is a front
pub front_all : {A : Type 0} (xs : List A) → take (length xs) xs ≡ xs
front_all [] = refl
front_all (x ∷ xs) = ap (λ ys. x ∷ ys) (front_all xs)

-- where each front fits exactly if its end is reached, so does all of it
pub whole_front : {A : Type 0} (steps : List (Step A)) (xs : List A) (row : List Bool) → length row ≡ suc (length xs)
    → ((k : ℕ) → fits steps (take k xs) ≡ last_from false (take (suc k) row)) → fits steps xs ≡ last_from false row
whole_front steps xs row places each = ap (fits steps) (sym (front_all xs)) ∙ each (length xs) ∙ ap (λ n. last_from false (take n row)) (sym places) ∙ ap (λ r. last_from false r) (front_all row)

-- some front is reached exactly if one of its places is
pub some_front : (row : List Bool) → list_any (λ b. b) row ≡ true → (k : ℕ) × (last_from false (take (suc k) row) ≡ true)
some_front [] h = absurd (let z : ⊥ = cc in z)
some_front (true ∷ row) h = (zero, refl)
some_front (false ∷ row) h = let (k, e) = some_front row h in (suc k, e)

-- where it is reached before, or at one of these places
reached_from : (b : Bool) (row : List Bool) (n : ℕ) → last_from b (take n row) ≡ true → (b || list_any (λ r. r) row) ≡ true
reached_from true row n h = refl
reached_from false row zero h = absurd (let z : ⊥ = cc in z)
reached_from false [] (suc n) h = absurd (let z : ⊥ = cc in z)
reached_from false (r ∷ row) (suc n) h = reached_from r row n h

pub front_some : (row : List Bool) (k : ℕ) → last_from false (take (suc k) row) ≡ true → list_any (λ b. b) row ≡ true
front_some row k h = reached_from false row (suc k) h

-- a place is reached exactly if a front of the path fits
pub asks : (pattern names wanted path : List (List ℕ)) (row : List Bool) (said : Bool) → pattern ≡ wanted → names ≡ path
    → ((k : ℕ) → fits (map name_step pattern) (take k names) ≡ last_from false (take (suc k) row)) → said ≡ list_any (λ b. b) row
    → (said ≡ true) ↔ ((k : ℕ) × (fits (map name_step wanted) (take k path) ≡ true))
asks pattern names wanted path row said p n each y =
    let at : (k : ℕ) → fits (map name_step wanted) (take k path) ≡ last_from false (take (suc k) row) =
    λ k. sym (ap (λ w. fits (map name_step w) (take k names)) p ∙ ap (λ q. fits (map name_step wanted) (take k q)) n) ∙ each k in
    (λ t. let some = some_front row (sym y ∙ t) in (some.0, at some.0 ∙ some.1), λ s. y ∙ front_some row s.0 (sym (at s.0) ∙ s.1))
