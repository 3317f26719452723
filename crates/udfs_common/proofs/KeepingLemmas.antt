-- One more path has its source.
use Rattle.std.proofs.Common.{◌≡◌, ◌<◌, ◌⊎◌, arith, slice_index_or, ℕ, zero, suc, List, [], ◌∷◌, ◌++◌, Option, Some, length, slice_get, ap, inl, inr, refl, subst}
use Rattle.udfs_common.specs.Blaming.{AreJudged, AreJudgedFor, IsJudged, IsJudgedFor}
use Rattle.udfs_common.specs.Keeping.{Opens}
use Rattle.udfs_common.specs.Sources.{IsPathOpened}
use Rattle.udfs_common.specs.declared.sources.AnySource.{AnySource}
use Rattle.udfs_rescue.specs.declared.opening.PairFault.{PairFault}
use Rattle.udfs_words.specs.declared.input_path.InputPath.{InputPath}

last_more : {R : Type 0} (y : R) (ys : List R) (x : R) (k : ℕ) (s : R) → (slice_get ys k ≡ Some s) ⊎ ((k ≡ length ys) × (x ≡ s)) → (slice_get (y ∷ ys) (suc k) ≡ Some s) ⊎ ((suc k ≡ length (y ∷ ys)) × (x ≡ s))
last_more y ys x k s (inl h) = inl h
last_more y ys x k s (inr h) = inr (ap suc h.0, h.1)

pub last_of : {R : Type 0} (xs : List R) (x : R) (k : ℕ) (s : R) → slice_get (xs ++ x ∷ []) k ≡ Some s → (slice_get xs k ≡ Some s) ⊎ ((k ≡ length xs) × (x ≡ s))
last_of [] x zero s e = let same : x ≡ s = cc in inr (refl, same)
last_of [] x (suc k) s e = absurd (let b : ⊥ = cc in b)
last_of (y ∷ ys) x zero s e = inl e
last_of (y ∷ ys) x (suc k) s e = last_more y ys x k s (last_of ys x k s e)

each_by : {A B : Type 0} (Fits : A → B → Type 0) (paths : List A) (sources : List B) (path : A) (source : B) → ((k : ℕ) (p : A) (s : B) → slice_get paths k ≡ Some p → slice_get sources k ≡ Some s → Fits p s) →
    Fits path source → slice_get paths (length sources) ≡ Some path →
    (k : ℕ) (p : A) (s : B) → slice_get paths k ≡ Some p → (slice_get sources k ≡ Some s) ⊎ ((k ≡ length sources) × (source ≡ s)) → Fits p s
each_by Fits paths sources path source old is at k p s gp (inl h) = old k p s gp h
each_by Fits paths sources path source old is at k p s gp (inr h) =
    let there : slice_get paths (length sources) ≡ Some p = subst (λ n. slice_get paths n ≡ Some p) h.0 gp in
    let same : path ≡ p = cc in
    subst (λ x. Fits p x) h.1 (subst (λ q. Fits q source) same is)

-- so each source fits its path, where the last does
pub each_more : {A B : Type 0} (Fits : A → B → Type 0) (paths : List A) (sources : List B) (path : A) (source : B) → ((k : ℕ) (p : A) (s : B) → slice_get paths k ≡ Some p → slice_get sources k ≡ Some s → Fits p s) →
    Fits path source → slice_get paths (length sources) ≡ Some path →
    (k : ℕ) (p : A) (s : B) → slice_get paths k ≡ Some p → slice_get (sources ++ source ∷ []) k ≡ Some s → Fits p s
each_more Fits paths sources path source old is at k p s gp gs = each_by Fits paths sources path source old is at k p s gp (last_of sources source k s gs)

pub opens_more : {R : Type 0} (found : List ℕ → Option (Option (List ℕ))) (left : R → Option (List ℕ)) (paths : List InputPath) (sources : List R) (path : InputPath) (source : R) →
    Opens found left paths sources → IsPathOpened found path (left source) → slice_get paths (length sources) ≡ Some path → Opens found left paths (sources ++ source ∷ [])
opens_more found left paths sources path source old is at = each_more (λ p s. IsPathOpened found p (left s)) paths sources path source old is at

pub judged_more : {R I : Type 0} (found : List ℕ → Option (Option (List ℕ))) (paths : List InputPath) (sources : List (AnySource R I)) (path : InputPath) (source : AnySource R I) →
    AreJudged found paths sources → IsJudged found path source → slice_get paths (length sources) ≡ Some path → AreJudged found paths (sources ++ source ∷ [])
judged_more found paths sources path source old is at = each_more (λ p s. IsJudged found p s) paths sources path source old is at

pub judged_for_more : {R : Type 0} (found : List ℕ → Option (Option (List ℕ))) (reason : R → Option PairFault) (paths : List InputPath) (sources : List R) (path : InputPath) (source : R) →
    AreJudgedFor found reason paths sources → IsJudgedFor found path (reason source) → slice_get paths (length sources) ≡ Some path → AreJudgedFor found reason paths (sources ++ source ∷ [])
judged_for_more found reason paths sources path source old is at = each_more (λ p s. IsJudgedFor found p (reason s)) paths sources path source old is at

pub at_place : {A : Type 0} (xs : List A) (i : ℕ) (d : A) → i < length xs → slice_get xs i ≡ Some (slice_index_or xs i d)
at_place [] i d lt = absurd (omega (arith, lt))
at_place (x ∷ xs) zero d lt = refl
at_place (x ∷ xs) (suc i) d lt = at_place xs i d (omega (arith, lt))
