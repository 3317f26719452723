-- The names by which a node is written, one by one.
use Rattle.std.proofs.Common.{◌≡◌, ◌∙◌, ℕ, zero, suc, ◌+◌, ◌<◌, Bool, List, [], ◌∷◌, ◌++◌, Some, None, ap, append_assoc, arith, length, slice_get, sym, take}
use Rattle.std.specs.Prelude.{unwrap_or}
use Rattle.std.proofs.lemmas.List.{append-nil}
use Rattle.udfs_tag.specs.declared.layouts.LbAddr.{LbAddr}
use Rattle.udfs_salvage.specs.NodeTexts.{name_text, names_text}
use Rattle.udfs_extraction.specs.ShortNames.{parts, shortened}

pub some_name : (path : List (List ℕ)) (i : ℕ) → i < length path → slice_get path i ≡ None → ⊥
some_name [] i below none = omega (arith, below)
some_name (m ∷ path) zero below none = let bad : Some m ≡ None = none in cc
some_name (m ∷ path) (suc i) below none = some_name path i (omega (arith, below)) none

pub names_more : (names : List (List ℕ)) (name : List ℕ) → names_text (names ++ name ∷ []) ≡ names_text names ++ name_text name
names_more [] name = append-nil (name_text name)
names_more (m ∷ names) name = ap (λ t. name_text m ++ t) (names_more names name) ∙ sym (append_assoc (name_text m) (names_text names) (name_text name))

next : (two : Bool) (icb : ℕ → LbAddr) (d i k : ℕ) (path : List (List ℕ)) (name : List ℕ) → slice_get path i ≡ Some name → k ≡ d + i
    → names_text (parts two icb d (take (suc i) path)) ≡ names_text (parts two icb d (take i path)) ++ name_text (unwrap_or (shortened two (icb k) name) name)
next two icb d i k [] name at is = let bad : None ≡ Some name = at in absurd (let no : ⊥ = cc in no)
next two icb d zero k (m ∷ path) name at is =
    let same : m ≡ name = cc in
    let e : d ≡ k = omega (arith, is) in
    append-nil _ ∙ ap (λ x. name_text (unwrap_or (shortened two (icb x) m) m)) e ∙ ap (λ x. name_text (unwrap_or (shortened two (icb k) x) x)) same
next two icb d (suc i) k (m ∷ path) name at is =
    ap (λ t. name_text (unwrap_or (shortened two (icb d) m) m) ++ t) (next two icb (suc d) i k path name at (omega (arith, is)))
    ∙ sym (append_assoc (name_text (unwrap_or (shortened two (icb d) m) m)) (names_text (parts two icb (suc d) (take i path))) (name_text (unwrap_or (shortened two (icb k) name) name)))

-- one name more
pub parts_next : (two : Bool) (icb : ℕ → LbAddr) (i : ℕ) (path : List (List ℕ)) (name : List ℕ) → slice_get path i ≡ Some name
    → names_text (parts two icb 1 (take (i + 1) path)) ≡ names_text (parts two icb 1 (take i path)) ++ name_text (unwrap_or (shortened two (icb (i + 1)) name) name)
parts_next two icb i path name at = ap (λ n. names_text (parts two icb 1 (take n path))) (let e : i + 1 ≡ suc i = omega arith in e) ∙ next two icb 1 i (i + 1) path name at (omega arith)
