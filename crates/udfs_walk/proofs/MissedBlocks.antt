-- What nodes miss: the blocks of their missing cells, and the list of all.
use Rattle.std.proofs.Common.{◌≡◌, refl, sym, ◌∙◌, ap, subst, inl, inr, ℕ, ◌<◌, List, [], ◌∷◌, ◌++◌, map, ◌⊎◌, arith, Some, None, slice_get}
use Rattle.std.specs.Prelude.{zero, suc, flat_map}
use Rattle.std.specs.List.{AllZip}
use Rattle.udfs_lattice.specs.Volumes.{ascending}
use Rattle.udfs_lattice.proofs.Inclusion.{Includes}
use Rattle.udfs_lattice.proofs.PublicLaws.{ascending_includes}
use Rattle.udfs_tag.specs.declared.layouts.LongAd.{LongAd}
use Rattle.udfs_space.specs.Places.{View}
use Rattle.udfs_file.specs.Laws.{IsClearTo}
use Rattle.udfs_file.specs.declared.cells.Cell.{Cell}
use Rattle.udfs_file.specs.declared.cells.Cell.TheVariants.{Byte, Gap}
use Rattle.udfs_walk.specs.NodeFields.{NodeFields}
use Rattle.udfs_walk.specs.Nodes.{node, node_at}
use Rattle.udfs_walk.specs.Rereads.{missing_of, reread}
use Rattle.udfs_walk.specs.Routes.{Route, Walked, walked}
use Rattle.udfs_walk.specs.Standings.{missing_blocks, runs_from, torn_or_whole, cells_standing}
use Rattle.udfs_walk.specs.Targets.{unread, target}
use Rattle.udfs_walk.specs.Walks.{AreNodes}
use Rattle.udfs_walk.specs.declared.standings.Standing.{Standing}
use Rattle.udfs_walk.proofs.EntryAddresses.{some_same}
use Rattle.udfs_walk.proofs.Listed.{Placed, placed}

-- ---- missing cells
-- a missing cell, with its block
abbrev pub IsGapAt : List Cell → ℕ → ℕ → Type 0
IsGapAt cs k n = slice_get cs k ≡ Some (Gap n)

-- one of the first cells is missing, or none
pub gap_before : (cs : List Cell) (end : ℕ) → ((k : ℕ) × (n : ℕ) × (k < end) × IsGapAt cs k n) ⊎ IsClearTo cs end
gap_before cs zero = inr (λ k lt m. let z : ⊥ = omega (arith, lt) in z)
gap_before [] (suc end) = inr (λ k lt m. let e : None ≡ Some (Gap m.0) = m.1 in let z : ⊥ = cc in z)
gap_before (Gap n ∷ cs) (suc end) = inl (0, n, omega arith, refl)
gap_before (Byte x o ∷ cs) (suc end) = go (gap_before cs end)
  where
    clear : IsClearTo cs end → IsClearTo (Byte x o ∷ cs) (suc end)
    clear h zero lt m = let e : Some (Cell.Byte x o) ≡ Some (Cell.Gap m.0) = m.1 in let z : ⊥ = cc in z
    clear h (suc k) lt m = h k (omega (arith, lt)) m

    go : ((k : ℕ) × (n : ℕ) × (k < end) × IsGapAt cs k n) ⊎ IsClearTo cs end → ((k : ℕ) × (n : ℕ) × (k < suc end) × IsGapAt (Byte x o ∷ cs) k n) ⊎ IsClearTo (Byte x o ∷ cs) (suc end)
    go (inl (k, n, lt, g)) = inl (suc k, n, omega (arith, lt), g)
    go (inr h) = inr (clear h)

-- the block of a missing cell is missing
pub gap_missing : (cs : List Cell) (k n : ℕ) → IsGapAt cs k n → Includes (missing_blocks cs) n
gap_missing [] k n e = absurd (let z : ⊥ = cc in z)
gap_missing (Byte x o ∷ cs) zero n e = absurd (let z : ⊥ = cc in z)
gap_missing (Byte x o ∷ cs) (suc k) n e = gap_missing cs k n e
gap_missing (Gap m ∷ cs) zero n e = inl cc
gap_missing (Gap m ∷ cs) (suc k) n e = inr (gap_missing cs k n e)

-- and a missing block is that of a cell
pub missing_gap : (cs : List Cell) (n : ℕ) → Includes (missing_blocks cs) n → (k : ℕ) × IsGapAt cs k n
missing_gap [] n i = absurd i
missing_gap (Byte x o ∷ cs) n i = let t : (k : ℕ) × IsGapAt cs k n = missing_gap cs n i in (suc t.0, t.1)
missing_gap (Gap m ∷ cs) n (inl e) = (0, ap (λ z. Some (Gap z)) e)
missing_gap (Gap m ∷ cs) n (inr i) = let t : (k : ℕ) × IsGapAt cs k n = missing_gap cs n i in (suc t.0, t.1)

-- ---- nodes
-- the blocks that are missing of what is torn
torn_missing : (ns : List ℕ) (runs : List (ℕ × ℕ)) → missing_of (torn_or_whole ns runs) ≡ ns
torn_missing [] runs = refl
torn_missing (n ∷ ns) runs = refl

pub missing_is : (cs : List Cell) → missing_of (cells_standing cs) ≡ ascending (missing_blocks cs)
unfolding cells_standing
missing_is cs = torn_missing (ascending (missing_blocks cs)) (runs_from 0 cs)

-- a missing cell's block is missing where the cells say how whole a node is
pub gap_misses : (s : Standing) (cs : List Cell) → s ≡ cells_standing cs → (k n : ℕ) → IsGapAt cs k n → Includes (missing_of s) n
gap_misses s cs e k n at = subst (λ z. Includes z n) (sym (ap missing_of e ∙ missing_is cs)) ((ascending_includes (missing_blocks cs) n).1 (gap_missing cs k n at))

-- and a block that is missing there is that of a missing cell
pub misses_gap : (s : Standing) (cs : List Cell) → s ≡ cells_standing cs → (n : ℕ) → Includes (missing_of s) n → (k : ℕ) × IsGapAt cs k n
misses_gap s cs e n i = missing_gap cs n ((ascending_includes (missing_blocks cs) n).0 (subst (λ z. Includes z n) (ap missing_of e ∙ missing_is cs) i))

-- an ICB that is not known is all that is missing
pub unread_misses : (v : View) (w : Walked) (n : ℕ) → target v w.address ≡ unread n → missing_of (node v w).standing ≡ n ∷ []
unfolding node
unread_misses v w n t = ap (λ z. missing_of (node_at v w z).standing) t

-- ---- the list of all
-- a block is missing in the node at the end of some route
pub record IsMissed (v : View) (root : LongAd) (n : ℕ) : Type 0 where
  pub route : Route
  pub end : Walked
  pub leads : walked v root route ≡ Some end
  pub misses : Includes (missing_of (node v end).standing) n

-- these are the ends of these routes
abbrev pub AreEnds : View → LongAd → List Route → List Walked → Type 0
AreEnds v root routes ws = AllZip (λ route w. walked v root route ≡ Some w) routes ws

-- the blocks that are missing in the nodes at these ends
abbrev blocks_of : View → List Walked → List ℕ
blocks_of v ws = flat_map (λ n. missing_of n.standing) (map (node v) ws)

-- a number of two lists is in one of them
pub one_of : (xs ys : List ℕ) (n : ℕ) → Includes (xs ++ ys) n → Includes xs n ⊎ Includes ys n
one_of [] ys n i = inr i
one_of (x ∷ xs) ys n (inl e) = inl (inl e)
one_of (x ∷ xs) ys n (inr i) = go (one_of xs ys n i)
  where
    go : Includes xs n ⊎ Includes ys n → Includes (x ∷ xs) n ⊎ Includes ys n
    go (inl i) = inl (inr i)
    go (inr i) = inr i

-- each of these blocks is missing at one end
missed : (v : View) (root : LongAd) (rs : List Route) (ws : List Walked) → AreEnds v root rs ws → (n : ℕ) → Includes (blocks_of v ws) n → IsMissed v root n
missed v root [] [] z n i = absurd i
missed v root [] (w ∷ ws) z n i = absurd z
missed v root (r ∷ rs) [] z n i = absurd z
missed v root (r ∷ rs) (w ∷ ws) z n i = go (missed v root rs ws z.1 n) (one_of (missing_of (node v w).standing) (blocks_of v ws) n i)
  where
    go : (Includes (blocks_of v ws) n → IsMissed v root n) → Includes (missing_of (node v w).standing) n ⊎ Includes (blocks_of v ws) n → IsMissed v root n
    go ih (inl j) = record { route = r; end = w; leads = z.0; misses = j }
    go ih (inr j) = ih j

-- what is in the first of two lists is in both
pub in_left : (xs ys : List ℕ) (n : ℕ) → Includes xs n → Includes (xs ++ ys) n
in_left [] ys n i = absurd i
in_left (x ∷ xs) ys n (inl e) = inl e
in_left (x ∷ xs) ys n (inr i) = inr (in_left xs ys n i)

-- and so is what is in the second
pub in_right : (xs ys : List ℕ) (n : ℕ) → Includes ys n → Includes (xs ++ ys) n
in_right [] ys n i = i
in_right (x ∷ xs) ys n i = inr (in_right xs ys n i)

-- what is missing at an end is among the blocks of all
misses_in : (v : View) (ws : List Walked) (i : ℕ) (w : Walked) → slice_get ws i ≡ Some w → (n : ℕ) → Includes (missing_of (node v w).standing) n → Includes (blocks_of v ws) n
misses_in v [] i w e n m = absurd (let z : ⊥ = cc in z)
misses_in v (x ∷ ws) zero w e n m = in_left (missing_of (node v x).standing) (blocks_of v ws) n
    (subst (λ y. Includes (missing_of (node v y).standing) n) (some_same w x (sym e)) m)
misses_in v (x ∷ ws) (suc i) w e n m = in_right (missing_of (node v x).standing) (blocks_of v ws) n (misses_in v ws i w e n m)

-- the blocks to read again are those that are missing in nodes
pub listed_is_missed : (v : View) (root : LongAd) (nodes : List NodeFields) → AreNodes v root nodes → (n : ℕ) → Includes (reread nodes) n → IsMissed v root n
listed_is_missed v root nodes x n i = missed v root x.walk.routes x.walks x.walk.each n
    ((ascending_includes (blocks_of v x.walks) n).0 (subst (λ z. Includes (reread z) n) x.is i))

-- and all that are missing are among them
pub missed_is_listed : (v : View) (root : LongAd) (nodes : List NodeFields) → AreNodes v root nodes → (n : ℕ) → IsMissed v root n → Includes (reread nodes) n
missed_is_listed v root nodes x n m = subst (λ z. Includes (reread z) n) (sym x.is)
    ((ascending_includes (blocks_of v x.walks) n).1 (let at : Placed v root nodes x m.end = placed v root nodes x m.route m.end m.leads in misses_in v x.walks at.index m.end at.at n m.misses))
