-- The values of a list, one more at each step.
use Rattle.std.proofs.Common.{◌≡◌, sym, ap, ◌∙◌, ℕ, ◌+◌, ◌<◌, ◌≤◌, List, [], ◌∷◌, ◌++◌, length, map, take, get_or}
use Rattle.std.proofs.lemmas.List.{take_all}
use Rattle.std.proofs.lemmas.List.{map-append, take_more}
use Rattle.serde_json.specs.Data.{Data, array}
use Rattle.serde_json.specs.View.{items_of, view}
use Rattle.serde_json.specs.declared.value.Value.{Value}
use Rattle.udfs_salvage.specs.JsonNodes.{list_data}

-- one value more
pub listed_more : {A : Type 0} (f : A → Data) (xs : List A) (i : ℕ) (d : A) (vs ws : List Value) (v : Value) → i < length xs → map view vs ≡ map f (take i xs)
    → view v ≡ f (get_or xs i d) → ws ≡ vs ++ v ∷ [] → map view ws ≡ map f (take (i + 1) xs)
listed_more f xs i d vs ws v l h e more =
    ap (map view) more ∙ map-append view vs (v ∷ []) ∙ (λ k. h k ++ e k ∷ []) ∙ sym (map-append f (take i xs) (get_or xs i d ∷ []))
    ∙ ap (map f) (sym (take_more xs i d l))

-- all of them
pub listed_all : {A : Type 0} (f : A → Data) (xs : List A) (i : ℕ) (vs : List Value) → length xs ≤ i → map view vs ≡ map f (take i xs) → array (items_of (map view vs)) ≡ list_data f xs
listed_all f xs i vs l h = ap (λ ds. array (items_of ds)) (h ∙ ap (map f) (take_all i xs l))

-- the same of an element that has a name
pub listed_item : {A : Type 0} (f : A → Data) (xs : List A) (i : ℕ) (x : A) (vs ws : List Value) (v : Value) → i < length xs → map view vs ≡ map f (take i xs)
    → x ≡ get_or xs i x → view v ≡ f x → ws ≡ vs ++ v ∷ [] → map view ws ≡ map f (take (i + 1) xs)
listed_item f xs i x vs ws v l h is e more = listed_more f xs i x vs ws v l h (e ∙ ap f is) more
