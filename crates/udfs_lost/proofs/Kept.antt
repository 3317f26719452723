-- What a loop keeps of a list.
use Rattle.std.proofs.Common.{◌≡◌, refl, sym, ◌∙◌, ap, ℕ, ◌+◌, ◌<◌, ◌≤◌, Bool, true, false, cond, List, [], ◌∷◌, ◌++◌, length, map, take, get_or, Option, Some, None}
use Rattle.std.specs.Prelude.{filter, filter_map}
use Rattle.std.specs.List.{cons_option}
use Rattle.std.proofs.lemmas.List.{append-nil, map-append}
use Rattle.std.proofs.lemmas.List.Elements.{filter-append, filter_map-append}
use Rattle.udfs_lost.proofs.Members.{take_next, take_whole}

-- those that pass a test, each by what it gives
module _ {A B : Type 0} (f : A → B) (p : A → Bool) where
  kept_one : (xs : List A) (i : ℕ) (x : A) (b : Bool) → i < length xs → x ≡ get_or xs i x → p x ≡ b → map f (filter p (take (i + 1) xs)) ≡ map f (filter p (take i xs)) ++ map f (cond b (x ∷ []) [])
  kept_one xs i x b h at e = ap (λ z. map f (filter p z)) (take_next xs i x h at) ∙ ap (map f) (filter-append p (take i xs) (x ∷ []) ∙ ap (λ z. filter p (take i xs) ++ cond z (x ∷ []) []) e)
      ∙ map-append f (filter p (take i xs)) (cond b (x ∷ []) [])

  pub kept_yes : (xs : List A) (i : ℕ) (x : A) (y : B) (old new : List B) → i < length xs → x ≡ get_or xs i x → p x ≡ true → y ≡ f x → old ≡ map f (filter p (take i xs)) → new ≡ old ++ y ∷ []
      → new ≡ map f (filter p (take (i + 1) xs))
  kept_yes xs i x y old new h at e s o n = n ∙ (λ j. o j ++ s j ∷ []) ∙ sym (kept_one xs i x true h at e)

  pub kept_no : (xs : List A) (i : ℕ) (x : A) (old : List B) → i < length xs → x ≡ get_or xs i x → p x ≡ false → old ≡ map f (filter p (take i xs)) → old ≡ map f (filter p (take (i + 1) xs))
  kept_no xs i x old h at e o = o ∙ sym (append-nil (map f (filter p (take i xs)))) ∙ sym (kept_one xs i x false h at e)

  pub kept_all : (xs : List A) (i : ℕ) (old : List B) → length xs ≤ i → old ≡ map f (filter p (take i xs)) → old ≡ map f (filter p xs)
  kept_all xs i old h o = o ∙ ap (λ z. map f (filter p z)) (take_whole xs i h)

-- those for which there is something
module _ {A B : Type 0} (f : A → Option B) where
  given_one : (xs : List A) (i : ℕ) (x : A) (o : Option B) → i < length xs → x ≡ get_or xs i x → f x ≡ o → filter_map f (take (i + 1) xs) ≡ filter_map f (take i xs) ++ cons_option o []
  given_one xs i x o h at e = ap (filter_map f) (take_next xs i x h at) ∙ filter_map-append f (take i xs) (x ∷ []) ∙ ap (λ z. filter_map f (take i xs) ++ cons_option z []) e

  pub given_some : (xs : List A) (i : ℕ) (x : A) (y : B) (old new : List B) → i < length xs → x ≡ get_or xs i x → f x ≡ Some y → old ≡ filter_map f (take i xs) → new ≡ old ++ y ∷ []
      → new ≡ filter_map f (take (i + 1) xs)
  given_some xs i x y old new h at e o n = n ∙ ap (λ z. z ++ y ∷ []) o ∙ sym (given_one xs i x (Some y) h at e)

  pub given_none : (xs : List A) (i : ℕ) (x : A) (old : List B) → i < length xs → x ≡ get_or xs i x → f x ≡ None → old ≡ filter_map f (take i xs) → old ≡ filter_map f (take (i + 1) xs)
  given_none xs i x old h at e o = o ∙ sym (append-nil (filter_map f (take i xs))) ∙ sym (given_one xs i x None h at e)

  pub given_all : (xs : List A) (i : ℕ) (old : List B) → length xs ≤ i → old ≡ filter_map f (take i xs) → old ≡ filter_map f xs
  given_all xs i old h o = o ∙ ap (filter_map f) (take_whole xs i h)

-- what a change of the elements keeps
pub kept_alike : {A B : Type 0} (f : A → B) (p : A → Bool) (g : A → A) → ((x : A) → p (g x) ≡ p x) → ((x : A) → f (g x) ≡ f x) → (xs : List A) → map f (filter p (map g xs)) ≡ map f (filter p xs)
kept_alike f p g same keeps [] = refl
kept_alike {A} {B} f p g same keeps (x ∷ xs) = ap (λ b. map f (cond b (g x ∷ filter p (map g xs)) (filter p (map g xs)))) (same x) ∙ go (p x) (kept_alike f p g same keeps xs)
  where
    go : (b : Bool) → map f (filter p (map g xs)) ≡ map f (filter p xs) → map f (cond b (g x ∷ filter p (map g xs)) (filter p (map g xs))) ≡ map f (cond b (x ∷ filter p xs) (filter p xs))
    go true e = λ i. keeps x i ∷ e i
    go false e = e

-- and what passes is changed with them
pub passes_alike : {A : Type 0} (p : A → Bool) (g : A → A) → ((x : A) → p (g x) ≡ p x) → (xs : List A) → filter p (map g xs) ≡ map g (filter p xs)
passes_alike p g same [] = refl
passes_alike {A} p g same (x ∷ xs) = ap (λ b. cond b (g x ∷ filter p (map g xs)) (filter p (map g xs))) (same x) ∙ go (p x) (passes_alike p g same xs)
  where
    go : (b : Bool) → filter p (map g xs) ≡ map g (filter p xs) → cond b (g x ∷ filter p (map g xs)) (filter p (map g xs)) ≡ map g (cond b (x ∷ filter p xs) (filter p xs))
    go true e = λ i. g x ∷ e i
    go false e = e
