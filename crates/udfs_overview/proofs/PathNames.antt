-- The names of a path, one after the other.
use Rattle.std.proofs.Common.{◌≡◌, sym, ◌∙◌, ap, ℕ, ◌+◌, ◌<◌, List, [], ◌∷◌, ◌++◌, length, append_assoc, arith, Some, None, slice_get, take}
use Rattle.std.specs.Prelude.{zero, suc, codes}
use Rattle.udfs_overview.specs.SafeNames.{safe_name}
use Rattle.udfs_overview.specs.NodeLists.{safe_path}

next : (path : List (List ℕ)) (i : ℕ) (name : List ℕ) → slice_get path i ≡ Some name → safe_path (take (suc i) path) ≡ safe_path (take i path) ++ safe_path (name ∷ [])
next [] i name h = absurd (let z : ⊥ = cc in z)
next (x ∷ xs) zero name h = let q : x ≡ name = cc in ap (λ y. safe_path (y ∷ [])) q
next (x ∷ xs) (suc i) name h = ap (λ t. (codes "/" ++ safe_name x) ++ t) (next xs i name h) ∙ sym (append_assoc (codes "/" ++ safe_name x) (safe_path (take i xs)) (safe_path (name ∷ [])))

-- the text of the names so far, and of the next one
pub next_name : (path : List (List ℕ)) (i : ℕ) (name : List ℕ) → slice_get path i ≡ Some name → safe_path (take (i + 1) path) ≡ safe_path (take i path) ++ safe_path (name ∷ [])
next_name path i name h = ap (λ n. safe_path (take n path)) (let e : i + 1 ≡ suc i = omega arith in e) ∙ next path i name h

-- below its length a path has a name
pub some_name : (path : List (List ℕ)) (i : ℕ) → i < length path → slice_get path i ≡ None → ⊥
some_name [] i h e = omega (arith, h)
some_name (x ∷ xs) zero h e = let z : ⊥ = cc in z
some_name (x ∷ xs) (suc i) h e = some_name xs i (omega (arith, h)) e
