-- What is reached by some steps, and what is left of them, tell whether a list fits all of them.
use Rattle.std.proofs.Common.{◌≡◌, refl, ap, ◌∙◌, ℕ, suc, zero, Bool, true, false, List, [], ◌∷◌, ◌++◌, map, length}
use Rattle.std.specs.Prelude.{◌&&◌, ◌||◌}
use Rattle.std.specs.List.{list_any}
use Rattle.udfs_words.specs.Globs.{Any, One, Step, ends, fits}
use Rattle.udfs_words.specs.GlobRows.{both, last_from, next_row, some_fits, spread_from, unreached}

and_true : (b : Bool) → (b && true) ≡ b
and_true true = refl
and_true false = refl

and_false : (b : Bool) → (b && false) ≡ false
and_false true = refl
and_false false = refl

or_false : (b : Bool) → (b || false) ≡ b
or_false true = refl
or_false false = refl

and_assoc : (a b c : Bool) → ((a && b) && c) ≡ (a && (b && c))
and_assoc true b c = refl
and_assoc false b c = refl

none_or : (a r : Bool) → a ≡ (a || (r && false))
none_or true r = refl
none_or false true = refl
none_or false false = refl

-- a step that takes one thing, where the place before is reached or not
passed_on : {A : Type 0} (q : Bool) (row : List Bool) (takes : A → Bool) (steps : List (Step A)) (xs : List A) → length row ≡ suc (length xs)
    → some_fits (q ∷ both row (map takes xs)) steps xs ≡ ((q && fits steps xs) || some_fits row (One takes ∷ steps) xs)
passed_on q [] takes steps xs h = absurd (let z : ⊥ = cc in z)
passed_on q (r ∷ row) takes steps [] h = none_or (q && fits steps []) r
passed_on q (r ∷ row) takes steps (x ∷ xs) h =
    ap (λ b. (q && fits steps (x ∷ xs)) || b) (passed_on (r && takes x) row takes steps xs (let e : length row ≡ suc (length xs) = cc in e) ∙ ap (λ b. b || some_fits row (One takes ∷ steps) xs) (and_assoc r (takes x) (fits steps xs)))

-- either of two places, and one thing or more of what is behind it
spread_one : (b r f : Bool) → ((b || r) && f) ≡ ((b && (f || false)) || (r && (f || false)))
spread_one true true true = refl
spread_one true true false = refl
spread_one true false true = refl
spread_one true false false = refl
spread_one false true true = refl
spread_one false true false = refl
spread_one false false f = refl

spread_more : (b r f a s : Bool) → (((b || r) && f) || (((b || r) && a) || s)) ≡ ((b && (f || a)) || ((r && (f || a)) || s))
spread_more true true true a s = refl
spread_more true true false true s = refl
spread_more true true false false s = refl
spread_more true false true a s = refl
spread_more true false false true s = refl
spread_more true false false false s = refl
spread_more false true true a s = refl
spread_more false true false true s = refl
spread_more false true false false s = refl
spread_more false false f a s = refl

-- a step that takes any number of things, where a place before is reached or not
spread_on : {A : Type 0} (b : Bool) (row : List Bool) (steps : List (Step A)) (xs : List A) → length row ≡ suc (length xs)
    → some_fits (spread_from b row) steps xs ≡ ((b && list_any (fits steps) (ends xs)) || some_fits row (Any ∷ steps) xs)
spread_on b [] steps xs h = absurd (let z : ⊥ = cc in z)
spread_on b (r ∷ row) steps [] h = spread_one b r (fits steps [])
spread_on b (r ∷ row) steps (x ∷ xs) h =
    ap (λ s. ((b || r) && fits steps (x ∷ xs)) || s) (spread_on (b || r) row steps xs (let e : length row ≡ suc (length xs) = cc in e))
    ∙ spread_more b r (fits steps (x ∷ xs)) (list_any (fits steps) (ends xs)) (some_fits row (Any ∷ steps) xs)

-- one more step
pub one_step : {A : Type 0} (s : Step A) (row : List Bool) (steps : List (Step A)) (xs : List A) → length row ≡ suc (length xs)
    → some_fits (next_row s row xs) steps xs ≡ some_fits row (s ∷ steps) xs
one_step Any row steps xs h = spread_on false row steps xs h
one_step (One takes) row steps xs h = passed_on false row takes steps xs h

spread_places : (b : Bool) (row : List Bool) → length (spread_from b row) ≡ length row
spread_places b [] = refl
spread_places b (r ∷ row) = ap suc (spread_places (b || r) row)

passed_places : {A : Type 0} (row : List Bool) (takes : A → Bool) (xs : List A) → length row ≡ suc (length xs) → length (both row (map takes xs)) ≡ length xs
passed_places [] takes xs h = absurd (let z : ⊥ = cc in z)
passed_places (r ∷ row) takes [] h = refl
passed_places (r ∷ row) takes (x ∷ xs) h = ap suc (passed_places row takes xs (let e : length row ≡ suc (length xs) = cc in e))

-- it keeps the places
pub same_places : {A : Type 0} (s : Step A) (row : List Bool) (xs : List A) → length row ≡ suc (length xs) → length (next_row s row xs) ≡ suc (length xs)
same_places Any row xs h = spread_places false row ∙ h
same_places (One takes) row xs h = ap suc (passed_places row takes xs h)

-- behind no place there is something that fits
none_reached : {A : Type 0} (n : ℕ) (steps : List (Step A)) (xs : List A) → some_fits (unreached n) steps xs ≡ false
none_reached zero steps xs = refl
none_reached (suc n) steps [] = refl
none_reached (suc n) steps (x ∷ xs) = none_reached n steps xs

-- before any step
pub at_first : {A : Type 0} (n : ℕ) (steps : List (Step A)) (xs : List A) → some_fits (true ∷ unreached n) steps xs ≡ fits steps xs
at_first n steps [] = refl
at_first n steps (x ∷ xs) = ap (λ b. fits steps (x ∷ xs) || b) (none_reached n steps xs) ∙ or_false (fits steps (x ∷ xs))

pub first_places : (n : ℕ) → length (true ∷ unreached n) ≡ suc n
first_places zero = refl
first_places (suc n) = ap suc (first_places n)

-- behind all steps
pub at_last : {A : Type 0} (row : List Bool) (xs : List A) → length row ≡ suc (length xs) → some_fits row [] xs ≡ last_from false row
at_last [] xs h = absurd (let z : ⊥ = cc in z)
at_last (r ∷ []) [] h = and_true r
at_last (r ∷ s ∷ row) [] h = absurd (let z : ⊥ = cc in z)
at_last (r ∷ []) (x ∷ xs) h = absurd (let z : ⊥ = cc in z)
at_last (r ∷ s ∷ row) (x ∷ xs) h = ap (λ b. b || some_fits (s ∷ row) [] xs) (and_false r) ∙ at_last (s ∷ row) xs (let e : length (s ∷ row) ≡ suc (length xs) = cc in e)

-- one more place that is not reached
pub one_more_place : (n : ℕ) → unreached n ++ false ∷ [] ≡ unreached (suc n)
one_more_place zero = refl
one_more_place (suc n) = ap (λ row. false ∷ row) (one_more_place n)

-- as many things, each of them changed
pub same_count : {A B : Type 0} (f : A → B) (xs : List A) → length (map f xs) ≡ length xs
same_count f [] = refl
same_count f (x ∷ xs) = ap suc (same_count f xs)

pub no_things : {A : Type 0} (xs : List A) → length xs ≡ 0 → xs ≡ []
no_things [] h = refl
no_things (x ∷ xs) h = absurd (let z : ⊥ = cc in z)
