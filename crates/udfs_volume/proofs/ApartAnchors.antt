-- Where known copies differ, no lawful layout agrees with the table.
use Rattle.std.proofs.Common.{◌≡◌, refl, sym, ◌∙◌, ap, inl, inr, ℕ, Bool, true, false, not, List, [], ◌∷◌, cond, Option, Some, None}
use Rattle.std.specs.Prelude.{find, option_map, Contains}
use Rattle.std.specs.Str.{bytes_eq}
use Rattle.udfs_lattice.specs.States.{State, same_refl}
use Rattle.udfs_lattice.specs.Volumes.{Agrees, Blocks, Volume}
use Rattle.udfs_lattice.specs.declared.facts.Fact.TheVariants.{Unknown, Known, Conflict}
use Rattle.udfs_lattice.proofs.Inclusion.{Includes, contained}
use Rattle.udfs_tag.specs.Fields.{part}
use Rattle.udfs_tag.specs.Tags.{is_valid}
use Rattle.udfs_volume.specs.declared.profiles.Profile.{Profile}
use Rattle.udfs_volume.specs.Differences.{anchors_differ, apart_from, are_apart, has_anchor, named_at, AnchorsAgreeBy}
use Rattle.udfs_volume.specs.Laws.{IsLawfulLayoutBy, valid_anchors}
use Rattle.udfs_volume.specs.Sequence.{Bytes, anchor_here, anchor_places}
use Rattle.udfs_volume.proofs.Known.{Includes-filter}

find_none : (f : ℕ → Bool) (ns : List ℕ) → ((n : ℕ) → Includes ns n → f n ≡ false) → find f ns ≡ None
find_none f [] h = refl
find_none f (n ∷ ns) h = ap (λ b. cond b (Some n) (find f ns)) (h n (inl refl)) ∙ find_none f ns (λ m i. h m (inr i))

-- a known anchor is one of the volume's
named_is : (T : Blocks) (V : Volume) (N : ℕ) → Agrees T V N → (n : ℕ) (b : Bytes) → named_at T n ≡ Some b → (is_valid (V n) n 2 ≡ true) × (part (V n) 16 16 ≡ b)
named_is T V N a n b e = go (T n) refl (sym (ap (λ s. option_map (λ bytes. part bytes 16 16) (anchor_here n s)) refl) ∙ e)
  where
    by : (bytes : Bytes) → T n ≡ Known bytes → (v : Bool) → is_valid bytes n 2 ≡ v → option_map (λ bytes. part bytes 16 16) (cond v (Some bytes) None) ≡ Some b
        → (is_valid (V n) n 2 ≡ true) × (part (V n) 16 16 ≡ b)
    by bytes q true v p = let same : bytes ≡ V n = a.known n bytes q in let is : part bytes 16 16 ≡ b = cc in
        (ap (λ x. is_valid x n 2) (sym same) ∙ v, ap (λ x. part x 16 16) (sym same) ∙ is)
    by bytes q false v p = absurd (let z : ⊥ = cc in z)

    go : (s : State) → T n ≡ s → option_map (λ bytes. part bytes 16 16) (anchor_here n s) ≡ Some b → (is_valid (V n) n 2 ≡ true) × (part (V n) 16 16 ≡ b)
    go Unknown q p = absurd (let z : ⊥ = cc in z)
    go (Known bytes) q p = by bytes q (is_valid bytes n 2) refl p
    go Conflict q p = absurd (let z : ⊥ = cc in z)

none_differs : (profile : Profile) (T : Blocks) (V : Volume) (N : ℕ) → IsLawfulLayoutBy profile V N → Agrees T V N
    → (n m : ℕ) → Includes (anchor_places N) n → Includes (anchor_places N) m → anchors_differ T n m ≡ false
none_differs profile T V N lw a n m i j = go (named_at T n) refl (named_at T m) refl
  where
    valid : (k : ℕ) → Includes (anchor_places N) k → is_valid (V k) k 2 ≡ true → Contains (valid_anchors V N) k
    valid k p v = contained (valid_anchors V N) k (Includes-filter (λ x. is_valid (V x) x 2) (anchor_places N) k p v)

    go : (one : Option Bytes) → named_at T n ≡ one → (other : Option Bytes) → named_at T m ≡ other → are_apart one other ≡ false
    go None p other q = refl
    go (Some one) p None q = refl
    go (Some one) p (Some other) q =
        let x : (is_valid (V n) n 2 ≡ true) × (part (V n) 16 16 ≡ one) = named_is T V N a n one p in
        let y : (is_valid (V m) m 2 ≡ true) × (part (V m) 16 16 ≡ other) = named_is T V N a m other q in
        let same : one ≡ other = sym x.1 ∙ lw.anchors n m (valid n i x.0) (valid m j y.0) ∙ y.1 in
        ap (λ z. not (bytes_eq one z)) (sym same) ∙ ap not (same_refl one)

-- what is found is in the list
found_in : (f : ℕ → Bool) (ns : List ℕ) (n : ℕ) → find f ns ≡ Some n → Includes ns n
found_in f [] n e = absurd (let z : ⊥ = cc in z)
found_in f (m ∷ ms) n e = go (f m) (found_in f ms n) e
  where
    go : (b : Bool) → (find f ms ≡ Some n → Includes ms n) → cond b (Some m) (find f ms) ≡ Some n → Includes (m ∷ ms) n
    go true later p = let is : m ≡ n = cc in inl is
    go false later p = inr (later p)

pub anchors_agree : (profile : Profile) → AnchorsAgreeBy profile
anchors_agree profile T V N lw a = go (find (has_anchor T) (anchor_places N)) refl
  where
    go : (o : Option ℕ) → find (has_anchor T) (anchor_places N) ≡ o → apart_from T (anchor_places N) o ≡ None
    go None e = refl
    go (Some n) e = ap (option_map (λ m. (n, m))) (find_none (anchors_differ T n) (anchor_places N)
        (λ m i. none_differs profile T V N lw a n m (found_in (has_anchor T) (anchor_places N) n e) i))
