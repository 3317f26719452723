-- What a table that agrees with a volume knows of blocks, none of which is not known.
use Rattle.std.proofs.Common.{◌≡◌, refl, sym, ◌∙◌, ap, subst, inl, inr, ℕ, ◌+◌, ◌<◌, ◌≤◌, Bool, true, false, not, List, [], ◌∷◌, ◌++◌, arith}
use Rattle.std.specs.Prelude.{zero, suc, ◌⊎◌, flat_map}
use Rattle.std.specs.List.{range_with_len}
use Rattle.std.proofs.lemmas.List.Concat.{flat_map-cons}
use Rattle.udfs_lattice.specs.States.{State, is_known}
use Rattle.udfs_lattice.specs.Volumes.{Agrees, Blocks, Volume, ascending, complete, not_known}
use Rattle.udfs_lattice.specs.declared.facts.Fact.TheVariants.{Unknown, Known, Conflict}
use Rattle.udfs_lattice.proofs.Inclusion.{Includes}
use Rattle.udfs_lattice.proofs.PublicLaws.{ascending_includes}
use Rattle.udfs_volume.proofs.Known.{Includes-filter, complete-known, known_below, known_is, true_false}

pub unread_none : (T : Blocks) (xs : List ℕ) → not_known T xs ≡ [] → (n : ℕ) → Includes xs n → is_known (T n) ≡ true
unread_none T xs e n i = go (is_known (T n)) refl
  where
    go : (b : Bool) → is_known (T n) ≡ b → is_known (T n) ≡ true
    go true h = h
    go false h = let j : Includes (not_known T xs) n = Includes-filter (λ m. not (is_known (T m))) xs n i (ap not h) in absurd (subst (λ ys. Includes ys n) e j)

pub ascending_none : (ns : List ℕ) → ascending ns ≡ [] → ns ≡ []
ascending_none [] e = refl
ascending_none (n ∷ ns) e = absurd (subst (λ ys. Includes ys n) e ((ascending_includes (n ∷ ns) n).1 (inl refl)))

-- the block is known with the volume's bytes, and is one of it
abbrev pub IsHere : Blocks → Volume → ℕ → ℕ → Type 0
IsHere T V N n = (T n ≡ Known (V n)) × (n ≤ N)

pub known_here : (T : Blocks) (V : Volume) (N : ℕ) → Agrees T V N → (n : ℕ) → is_known (T n) ≡ true → IsHere T V N n
known_here T V N a n h = go (T n) refl
  where
    go : (s : State) → T n ≡ s → IsHere T V N n
    go Unknown q = true_false (is_known (T n)) h (ap is_known q)
    go (Known bytes) q = (known_is T V N a n bytes q, known_below T V N a n bytes q)
    go Conflict q = true_false (is_known (T n)) h (ap is_known q)

-- so it is known as with all known
pub same_state : (T : Blocks) (V : Volume) (N n : ℕ) → IsHere T V N n → T n ≡ complete V N n
same_state T V N n h = h.0 ∙ sym (complete-known V N n h.1)

-- all of these are
abbrev pub AreHere : Blocks → Volume → ℕ → List ℕ → Type 0
AreHere T V N xs = (n : ℕ) → Includes xs n → IsHere T V N n

pub all_here : (T : Blocks) (V : Volume) (N : ℕ) → Agrees T V N → (xs : List ℕ) → not_known T xs ≡ [] → AreHere T V N xs
all_here T V N a xs e n i = known_here T V N a n (unread_none T xs e n i)

-- ---- what stands in a list
pub in_left : (xs ys : List ℕ) (n : ℕ) → Includes xs n → Includes (xs ++ ys) n
in_left [] ys n i = absurd i
in_left (x ∷ xs) ys n (inl e) = inl e
in_left (x ∷ xs) ys n (inr i) = inr (in_left xs ys n i)

pub in_right : (xs ys : List ℕ) (n : ℕ) → Includes ys n → Includes (xs ++ ys) n
in_right [] ys n i = i
in_right (x ∷ xs) ys n i = inr (in_right xs ys n i)

pub in_flat : (f : ℕ → List ℕ) (xs : List ℕ) (x n : ℕ) → Includes xs x → Includes (f x) n → Includes (flat_map f xs) n
in_flat f [] x n i j = absurd i
in_flat f (y ∷ ys) x n (inl e) j = subst (λ zs. Includes zs n) (sym (flat_map-cons f y ys)) (in_left (f y) (flat_map f ys) n (subst (λ z. Includes (f z) n) (sym e) j))
in_flat f (y ∷ ys) x n (inr i) j = subst (λ zs. Includes zs n) (sym (flat_map-cons f y ys)) (in_right (f y) (flat_map f ys) n (in_flat f ys x n i j))

pub in_row : (c n i : ℕ) → c ≤ i → i < c + n → Includes (range_with_len c n) i
in_row c zero i l m = absurd (let z : ⊥ = omega (arith, l, m) in z)
in_row c (suc n) i l m = go (here_or_later c i l) (λ k. in_row (c + 1) n i k (omega (arith, m)))
  where
    here_or_later : (c i : ℕ) → c ≤ i → (c ≡ i) ⊎ (c + 1 ≤ i)
    here_or_later c i h = grind arith

    go : (c ≡ i) ⊎ (c + 1 ≤ i) → (c + 1 ≤ i → Includes (range_with_len (c + 1) n) i) → Includes (range_with_len c (suc n)) i
    go (inl e) later = inl e
    go (inr k) later = inr (later k)

pub row_bounds : (c n i : ℕ) → Includes (range_with_len c n) i → (c ≤ i) × (i < c + n)
row_bounds c zero i h = absurd h
row_bounds c (suc n) i (inl e) = (omega (arith, e), omega (arith, e))
row_bounds c (suc n) i (inr h) = let b : (c + 1 ≤ i) × (i < c + 1 + n) = row_bounds (c + 1) n i h in (omega (arith, b.0), omega (arith, b.1))
