-- The runs of missing cells hold the missing cells and no other.
use Rattle.std.proofs.Common.{◌≡◌, refl, sym, subst, inl, inr, ◌⊎◌, ℕ, ◌+◌, ◌<◌, ◌≤◌, Bool, true, false, List, [], ◌∷◌, cond, arith, nat_eq}
use Rattle.std.specs.Prelude.{zero, suc, Contains, ◌↔◌}
use Rattle.std.proofs.lemmas.Bool.{eqb-true}
use Rattle.udfs_lattice.specs.Volumes.{ascending}
use Rattle.udfs_lattice.proofs.Inclusion.{Includes, here, there, here_or_there, in_nothing}
use Rattle.udfs_file.specs.Laws.{IsMissingAt}
use Rattle.udfs_file.specs.declared.cells.Cell.{Cell}
use Rattle.udfs_file.specs.declared.cells.Cell.TheVariants.{Byte, Gap}
use Rattle.udfs_lattice.proofs.PublicLaws.{ascending_includes}
use Rattle.udfs_walk.specs.Standings.{missing_blocks, with_hole, runs_from, torn_or_whole, cells_standing}
use Rattle.udfs_walk.specs.declared.standings.Standing.TheVariants.{Whole}
use Rattle.udfs_walk.specs.Rereads.{holes_of}
use Rattle.udfs_walk.specs.Cells.{IsInRuns}

in_first : (run : ℕ × ℕ) (runs : List (ℕ × ℕ)) (k : ℕ) → run.0 ≤ k → k < run.0 + run.1 → IsInRuns (run ∷ runs) k
in_first run runs k l h = (run, here run runs, l, h)

in_rest : (run : ℕ × ℕ) (runs : List (ℕ × ℕ)) (k : ℕ) → IsInRuns runs k → IsInRuns (run ∷ runs) k
in_rest run runs k (r, i, l, h) = (r, there run runs r i, l, h)

in_either : (run : ℕ × ℕ) (runs : List (ℕ × ℕ)) (k : ℕ) → IsInRuns (run ∷ runs) k → ((run.0 ≤ k) × (k < run.0 + run.1)) ⊎ IsInRuns runs k
in_either run runs k (r, i, l, h) = go (here_or_there run runs r i)
  where
    go : (run ≡ r) ⊎ Contains runs r → ((run.0 ≤ k) × (k < run.0 + run.1)) ⊎ IsInRuns runs k
    go (inl e) = inl (subst (λ z. z.0 ≤ k) (sym e) l, subst (λ z. k < z.0 + z.1) (sym e) h)
    go (inr j) = inr (r, j, l, h)

in_none : {A : Type 0} (k : ℕ) → IsInRuns [] k → A
in_none k (r, i, l, h) = in_nothing r i

hole_first : (at : ℕ) (runs : List (ℕ × ℕ)) → IsInRuns (with_hole at runs) at
hole_first at [] = in_first (at, 1) [] at (omega arith) (omega arith)
hole_first at (run ∷ runs) = go (nat_eq run.0 (at + 1))
  where
    go : (b : Bool) → IsInRuns (cond b ((at, run.1 + 1) ∷ runs) ((at, 1) ∷ run ∷ runs)) at
    go true = in_first (at, run.1 + 1) runs at (omega arith) (omega arith)
    go false = in_first (at, 1) (run ∷ runs) at (omega arith) (omega arith)

hole_rest : (at k : ℕ) (runs : List (ℕ × ℕ)) → IsInRuns runs k → IsInRuns (with_hole at runs) k
hole_rest at k [] i = in_rest (at, 1) [] k i
hole_rest at k (run ∷ runs) i = go (nat_eq run.0 (at + 1)) refl (in_either run runs k i)
  where
    go : (b : Bool) → nat_eq run.0 (at + 1) ≡ b → ((run.0 ≤ k) × (k < run.0 + run.1)) ⊎ IsInRuns runs k → IsInRuns (cond b ((at, run.1 + 1) ∷ runs) ((at, 1) ∷ run ∷ runs)) k
    go true e (inl h) = let s : run.0 ≡ at + 1 = eqb-true run.0 (at + 1) e in let l = h.0 in let m = h.1 in in_first (at, run.1 + 1) runs k (omega (arith, s, l)) (omega (arith, s, m))
    go true e (inr j) = in_rest (at, run.1 + 1) runs k j
    go false e h = in_rest (at, 1) (run ∷ runs) k i

hole_only : (at k : ℕ) (runs : List (ℕ × ℕ)) → IsInRuns (with_hole at runs) k → (k ≡ at) ⊎ IsInRuns runs k
hole_only at k [] i = go (in_either (at, 1) [] k i)
  where
    go : ((at ≤ k) × (k < at + 1)) ⊎ IsInRuns [] k → (k ≡ at) ⊎ IsInRuns [] k
    go (inl h) = inl (let l = h.0 in let m = h.1 in omega (arith, l, m))
    go (inr j) = inr j
hole_only at k (run ∷ runs) i = go (nat_eq run.0 (at + 1)) refl i
  where
    near : (d : ℕ) → at ≤ k → k < at + (d + 1) → (k ≡ at) ⊎ ((at + 1 ≤ k) × (k < at + 1 + d))
    near d l m = grind arith

    grown : run.0 ≡ at + 1 → (k ≡ at) ⊎ ((at + 1 ≤ k) × (k < at + 1 + run.1)) → (k ≡ at) ⊎ IsInRuns (run ∷ runs) k
    grown e (inl p) = inl p
    grown e (inr h) = inr (in_first run runs k (subst (λ z. z ≤ k) (sym e) h.0) (subst (λ z. k < z + run.1) (sym e) h.1))

    one : (at ≤ k) → (k < at + 1) → k ≡ at
    one l m = omega (arith, l, m)

    of_grown : nat_eq run.0 (at + 1) ≡ true → ((at ≤ k) × (k < at + (run.1 + 1))) ⊎ IsInRuns runs k → (k ≡ at) ⊎ IsInRuns (run ∷ runs) k
    of_grown e (inl h) = grown (eqb-true run.0 (at + 1) e) (near run.1 h.0 h.1)
    of_grown e (inr j) = inr (in_rest run runs k j)

    of_new : ((at ≤ k) × (k < at + 1)) ⊎ IsInRuns (run ∷ runs) k → (k ≡ at) ⊎ IsInRuns (run ∷ runs) k
    of_new (inl h) = inl (one h.0 h.1)
    of_new (inr j) = inr j

    go : (b : Bool) → nat_eq run.0 (at + 1) ≡ b → IsInRuns (cond b ((at, run.1 + 1) ∷ runs) ((at, 1) ∷ run ∷ runs)) k → (k ≡ at) ⊎ IsInRuns (run ∷ runs) k
    go true e j = of_grown e (in_either (at, run.1 + 1) runs k j)
    go false e j = of_new (in_either (at, 1) (run ∷ runs) k j)

-- each missing cell is in a run
runs_have : (cs : List Cell) (at k : ℕ) → IsMissingAt cs k → IsInRuns (runs_from at cs) (at + k)
runs_have [] at k (n, e) = absurd (let z : ⊥ = cc in z)
runs_have (Byte x o ∷ cs) at zero (n, e) = absurd (let z : ⊥ = cc in z)
runs_have (Byte x o ∷ cs) at (suc k) (n, e) = subst (IsInRuns (runs_from (at + 1) cs)) (let q : at + 1 + k ≡ at + suc k = omega arith in q) (runs_have cs (at + 1) k (n, e))
runs_have (Gap m ∷ cs) at zero (n, e) = subst (IsInRuns (with_hole at (runs_from (at + 1) cs))) (let q : at ≡ at + 0 = omega arith in q) (hole_first at (runs_from (at + 1) cs))
runs_have (Gap m ∷ cs) at (suc k) (n, e) = hole_rest at (at + suc k) (runs_from (at + 1) cs)
    (subst (IsInRuns (runs_from (at + 1) cs)) (let q : at + 1 + k ≡ at + suc k = omega arith in q) (runs_have cs (at + 1) k (n, e)))

-- the place of a missing cell, counted from the first
abbrev IsPlaceOf : List Cell → ℕ → ℕ → Type 0
IsPlaceOf cs at m = (k : ℕ) × (m ≡ at + k) × IsMissingAt cs k

runs_only : (cs : List Cell) (at m : ℕ) → IsInRuns (runs_from at cs) m → IsPlaceOf cs at m
runs_only [] at m i = in_none m i
runs_only (Byte x o ∷ cs) at m i = next (runs_only cs (at + 1) m i)
  where
    next : IsPlaceOf cs (at + 1) m → IsPlaceOf (Byte x o ∷ cs) at m
    next (k, e, h) = (suc k, omega (arith, e), h)
runs_only (Gap n ∷ cs) at m i = go (hole_only at m (runs_from (at + 1) cs) i) (runs_only cs (at + 1) m)
  where
    next : IsPlaceOf cs (at + 1) m → IsPlaceOf (Gap n ∷ cs) at m
    next (k, e, h) = (suc k, omega (arith, e), h)

    go : (m ≡ at) ⊎ IsInRuns (runs_from (at + 1) cs) m → (IsInRuns (runs_from (at + 1) cs) m → IsPlaceOf cs (at + 1) m) → IsPlaceOf (Gap n ∷ cs) at m
    go (inl e) later = (0, omega (arith, e), (n, refl))
    go (inr j) later = next (later j)

pub runs_are : (cs : List Cell) (k : ℕ) → IsMissingAt cs k ↔ IsInRuns (runs_from 0 cs) k
runs_are cs k = (λ h. subst (IsInRuns (runs_from 0 cs)) (let q : 0 + k ≡ k = omega arith in q) (runs_have cs 0 k h), λ i. back (runs_only cs 0 k i))
  where
    back : IsPlaceOf cs 0 k → IsMissingAt cs k
    back (j, e, h) = subst (IsMissingAt cs) (let q : j ≡ k = omega (arith, e) in q) h

-- ---- whole cells
pub none_at : (cs : List Cell) (k : ℕ) → missing_blocks cs ≡ [] → ¬ IsMissingAt cs k
none_at [] k e (n, q) = let z : ⊥ = cc in z
none_at (Byte x o ∷ cs) zero e (n, q) = let z : ⊥ = cc in z
none_at (Byte x o ∷ cs) (suc k) e (n, q) = none_at cs k e (n, q)
none_at (Gap m ∷ cs) k e (n, q) = let z : ⊥ = cc in z

none_ascending : (xs : List ℕ) → ascending xs ≡ [] → xs ≡ []
none_ascending [] e = refl
none_ascending (x ∷ xs) e = absurd (subst (λ z. Includes z x) e ((ascending_includes (x ∷ xs) x).1 (inl refl)))

none_torn : (ns : List ℕ) (runs : List (ℕ × ℕ)) → torn_or_whole ns runs ≡ Whole → ns ≡ []
none_torn [] runs e = refl
none_torn (n ∷ ns) runs e = absurd (let z : ⊥ = cc in z)

pub none_missing : (cs : List Cell) → cells_standing cs ≡ Whole → missing_blocks cs ≡ []
unfolding cells_standing
none_missing cs e = none_ascending (missing_blocks cs) (none_torn (ascending (missing_blocks cs)) (runs_from 0 cs) e)

-- the holes of what cells alone say are the places of the missing ones
pub holes_are : (cs : List Cell) (k : ℕ) → IsMissingAt cs k ↔ IsInRuns (holes_of (cells_standing cs)) k
unfolding cells_standing
holes_are cs k = go (ascending (missing_blocks cs)) refl
  where
    none : ascending (missing_blocks cs) ≡ [] → IsMissingAt cs k → IsInRuns [] k
    none e h = absurd (none_at cs k (none_ascending (missing_blocks cs) e) h)

    go : (ns : List ℕ) → ascending (missing_blocks cs) ≡ ns → IsMissingAt cs k ↔ IsInRuns (holes_of (torn_or_whole ns (runs_from 0 cs))) k
    go [] e = (none e, λ i. in_none k i)
    go (n ∷ ns) e = runs_are cs k
