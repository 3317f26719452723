-- The volume descriptor sequence where both blocks of each position that is reached are known: its layout is the volume's.
use Rattle.std.proofs.Common.{◌≡◌, refl, sym, ◌∙◌, ap, subst, inl, inr, ◌⊎◌, ℕ, ◌+◌, ◌/◌, ◌<◌, ◌≤◌, Bool, true, false, not, cond, ◌&&◌, ◌||◌, List, [], ◌∷◌, map, drop, arith, nat_eq, nat_le, Some, None}
use Rattle.std.specs.Prelude.{zero, suc, ⊤}
use Rattle.std.specs.List.{range_with_len}
use Rattle.std.specs.Str.{bytes_eq}
use Rattle.std.proofs.lemmas.Bool.{leb-true, leb-false, eqb-true}
use Rattle.std.proofs.lemmas.Slice.Eq.{bytes_eq-Decides}
use Rattle.udfs_lattice.specs.States.{is_known}
use Rattle.udfs_lattice.specs.Volumes.{Blocks, Volume, complete, first_known_by, not_known}
use Rattle.udfs_lattice.proofs.Inclusion.{Includes}
use Rattle.udfs_tag.specs.Tags.{identifier, is_sound}
use Rattle.udfs_volume.specs.declared.anchors.AnchorExtents.{AnchorExtents}
use Rattle.udfs_volume.specs.declared.faults.VolumeFault.TheVariants.{Extents, Pointer}
use Rattle.udfs_volume.specs.declared.profiles.Profile.{Profile}
use Rattle.udfs_volume.specs.declared.profiles.Profile.TheVariants.{Strict, Wide}
use Rattle.udfs_volume.specs.Answers.{Answer, found, holes, faulty, and_then}
use Rattle.udfs_volume.specs.Differences.{contents_differ, differ_at, known_differ, reaches}
use Rattle.udfs_volume.specs.Laws.{SaysTheSame, is_of_layout}
use Rattle.udfs_volume.specs.Layout.{layout_by, layout_of, main_layout_by, or_reserve, reserve_layout_by}
use Rattle.udfs_volume.specs.Sequence.{Descriptor, Position, anchor, anchor_here, anchor_or, anchor_places, are_extents_by, descriptor, ended_by, exchanged, first_anchor, goes_on, invalid, is_extent, or_else, position, position_of, positions, read_positions, reserve_sequence_by, sequence_at, sequence_by, shared, shorter, unread}
use Rattle.udfs_volume.proofs.ApartCopies.{reaches_next}
use Rattle.udfs_volume.proofs.Choosing.{twice}
use Rattle.udfs_volume.proofs.Early.{IsLate}
use Rattle.udfs_volume.proofs.Known.{both, Includes-filter}
use Rattle.udfs_volume.proofs.LayoutLaw.{Alike, ReadsAlike, Through, all_same, count, layout_at, needed_at, needs, one_unread, reads_alike, row}
use Rattle.udfs_volume.proofs.Needed.{goes_needed, needed}
use Rattle.udfs_volume.proofs.NeededLayouts.{layout_by_needed, reads_needed}
use Rattle.udfs_volume.proofs.Positions.{before, described, main_is, read-on, read-stop, same_described}
use Rattle.udfs_volume.proofs.Told.{late_layout_of}
use Rattle.udfs_lawfulness.specs.Sequences.{pair_at, pairs_in, reached_in}
use Rattle.udfs_lawfulness.proofs.Known.{AreHere, IsHere, in_flat, in_row, same_state}

-- ---- the anchor
pub first_same : (T C : Blocks) (ns : List ℕ) → ((n : ℕ) → Includes ns n → T n ≡ C n) → first_anchor T ns ≡ first_anchor C ns
first_same T C [] h = refl
first_same T C (n ∷ ns) h = λ i. or_else (anchor_here n (h n (inl refl) i)) (first_same T C ns (λ m j. h m (inr j)) i)

unread_same : (T C : Blocks) (ns : List ℕ) → ((n : ℕ) → Includes ns n → T n ≡ C n) → not_known T ns ≡ not_known C ns
unread_same T C [] h = refl
unread_same T C (n ∷ ns) h = λ i. cond (not (is_known (h n (inl refl) i))) (n ∷ unread_same T C ns (λ m j. h m (inr j)) i) (unread_same T C ns (λ m j. h m (inr j)) i)

pub anchor_same : (T C : Blocks) (N : ℕ) → ((n : ℕ) → Includes (anchor_places N) n → T n ≡ C n) → anchor T N ≡ anchor C N
unfolding anchor
anchor_same T C N h = λ i. anchor_or (first_same T C (anchor_places N) h i) (unread_same T C (anchor_places N) h i)

-- ---- the positions
row_same : (T C : Blocks) (m r : ℕ) → T m ≡ C m → T r ≡ C r → position T m r ≡ position C m r
unfolding position
row_same T C m r p q = λ i. position_of (m ∷ r ∷ []) (first_known_by m (p i) (first_known_by r (q i) None))

pub reaches_all : (T : Blocks) (e : AnchorExtents) (i : ℕ) → ((j : ℕ) → j < i → goes_on (row T e j) ≡ true) → reaches T e i ≡ true
reaches_all T e zero h = refl
reaches_all T e (suc i) h = let n : i + 1 ≡ suc i = omega arith in
    subst (λ k. reaches T e k ≡ true) n (reaches_next T e i (reaches_all T e i (λ j l. h j (omega (arith, l)))) (h i (omega arith)))

-- both blocks of a position that is reached are known
pub pair_here : (T : Blocks) (V : Volume) (N : ℕ) (e : AnchorExtents) → AreHere T V N (pairs_in T e) → (i : ℕ) → i < count e → reaches T e i ≡ true
    → IsHere T V N (e.main.block + i) × IsHere T V N (e.reserve.block + i)
pair_here T V N e all i l r = (at (e.main.block + i) (inl refl), at (e.reserve.block + i) (inr (inl refl)))
  where
    at : (n : ℕ) → Includes (pair_at e i) n → IsHere T V N n
    at n j = all n (in_flat (pair_at e) (reached_in T e) i n (Includes-filter (reaches T e) (range_with_len 0 (shorter e / 2048)) i (in_row 0 (shorter e / 2048) i (omega arith) (omega (arith, l))) r) j)

through_reached : (T : Blocks) (e : AnchorExtents) (i : ℕ) → Through (row T e) 0 (count e) i → reaches T e i ≡ true
through_reached T e i t = reaches_all T e i (λ j l. t.2 j (omega arith) l)

-- what is read of them is what is read with all known
reads_same : (T : Blocks) (V : Volume) (N : ℕ) (e : AnchorExtents) → AreHere T V N (pairs_in T e)
    → read_positions (map (row (complete V N) e) (range_with_len 0 (count e))) ≡ read_positions (map (row T e) (range_with_len 0 (count e)))
reads_same T V N e all = done (reads_alike (row C e) (row T e) (λ i. []) (λ i. ⊤) (λ i. ⊥) 0 (count e) each)
  where
    C : Blocks
    C = complete V N

    each : (i : ℕ) → Through (row T e) 0 (count e) i → Alike (row C e) (row T e) (λ i. []) (λ i. ⊤) (λ i. ⊥) i
    each i t = let p : IsHere T V N (e.main.block + i) × IsHere T V N (e.reserve.block + i) = pair_here T V N e all i (omega (arith, t.1)) (through_reached T e i t) in
        inl (sym (row_same T C (e.main.block + i) (e.reserve.block + i) (same_state T V N (e.main.block + i) p.0) (same_state T V N (e.reserve.block + i) p.1)), tt)

    done : ReadsAlike (row C e) (row T e) (λ i. []) (λ i. ⊤) (λ i. ⊥) 0 (count e)
        → read_positions (map (row C e) (range_with_len 0 (count e))) ≡ read_positions (map (row T e) (range_with_len 0 (count e)))
    done (all_same is k) = is
    done (one_unread i t is u) = absurd u

pub main_same : (P : Profile) (T : Blocks) (V : Volume) (N : ℕ) (e : AnchorExtents) → anchor T N ≡ found e → anchor (complete V N) N ≡ found e → are_extents_by P N e ≡ true
    → AreHere T V N (pairs_in T e) → main_layout_by P (complete V N) N ≡ main_layout_by P T N
main_same P T V N e q r b all = layout_at P (complete V N) N e r b ∙ ap (λ x. and_then x (layout_of P N)) (reads_same T V N e all) ∙ sym (layout_at P T N e q b)

-- ---- nothing is left to be read
stop_unread : (p : Position) (ns : List ℕ) → ended_by (Some p) [] ≡ holes ns → (ms : List ℕ) × (p ≡ unread ms)
stop_unread (unread ms) ns e = (ms, refl)
stop_unread invalid ns e = absurd (let z : ⊥ = cc in z)
stop_unread (descriptor d) ns e = go (nat_eq d.identifier 3) e
  where
    go : (b : Bool) → ◌≡◌ {A = Answer (List Descriptor)} (cond b (faulty Pointer) (found [])) (holes ns) → (ms : List ℕ) × (descriptor d ≡ unread ms)
    go true e = absurd (let z : ⊥ = cc in z)
    go false e = absurd (let z : ⊥ = cc in z)

before_holes : (p : Position) (a : Answer (List Descriptor)) (ns : List ℕ) → before p a ≡ holes ns → a ≡ holes ns
before_holes p (found ds) ns e = absurd (let z : ⊥ = cc in z)
before_holes p (holes ms) ns e = e
before_holes p (faulty f) ns e = absurd (let z : ⊥ = cc in z)

later : (q : ℕ → Position) (c n i : ℕ) → goes_on (q c) ≡ true → Through q (c + 1) n i → Through q c (suc n) i
later q c n i g (l, h, all) = (omega (arith, l), omega (arith, h), λ j lj hj. go j hj (eq_or_lt c j lj))
  where
    eq_or_lt : (c j : ℕ) → c ≤ j → (c ≡ j) ⊎ (c + 1 ≤ j)
    eq_or_lt c j h = grind arith

    go : (j : ℕ) → j < i → (c ≡ j) ⊎ (c + 1 ≤ j) → goes_on (q j) ≡ true
    go j hj (inl e) = sym (ap (λ x. goes_on (q x)) e) ∙ g
    go j hj (inr m) = all j m hj

no_holes : (f : ℕ → Position) (c n : ℕ) → ((i : ℕ) → Through f c n i → (ms : List ℕ) → f i ≡ unread ms → ⊥) → (ns : List ℕ) → read_positions (map f (range_with_len c n)) ≡ holes ns → ⊥
no_holes f c zero h ns e = let q : found [] ≡ holes ns = e in cc
no_holes f c (suc n) h ns e = go (goes_on (f c)) refl (λ g. no_holes f (c + 1) n (λ i t. h i (later f c n i g t)) ns)
  where
    rest : List Position
    rest = map f (range_with_len (c + 1) n)

    go : (b : Bool) → goes_on (f c) ≡ b → (goes_on (f c) ≡ true → read_positions rest ≡ holes ns → ⊥) → ⊥
    go true g more = more g (before_holes (f c) (read_positions rest) ns (sym (read-on (f c) rest g) ∙ e))
    go false g more = let w : (ms : List ℕ) × (f c ≡ unread ms) = stop_unread (f c) ns (sym (read-stop (f c) rest g) ∙ e) in
        h c (omega arith, omega arith, λ j l m. absurd (let z : ⊥ = omega (arith, l, m) in z)) w.0 w.1

described_read : (V : Volume) (n : ℕ) (ms : List ℕ) → described V n ≡ unread ms → ⊥
described_read V n ms e = go (is_sound (V n) n) e
  where
    go : (b : Bool) → cond b (descriptor (record { identifier = identifier (V n); content = drop 16 (V n) })) invalid ≡ unread ms → ⊥
    go true e = cc
    go false e = cc

late_holes : {A : Type 0} (a : Answer A) (ns : List ℕ) → IsLate a → a ≡ holes ns → ⊥
late_holes a ns l e = subst IsLate e l

pub main_no_holes : (P : Profile) (T : Blocks) (V : Volume) (N : ℕ) (e : AnchorExtents) → anchor T N ≡ found e → are_extents_by P N e ≡ true
    → AreHere T V N (pairs_in T e) → (ns : List ℕ) → main_layout_by P T N ≡ holes ns → ⊥
main_no_holes P T V N e q b all ns h = go (read_positions (map (row T e) (range_with_len 0 (count e)))) refl (sym (layout_at P T N e q b) ∙ h)
  where
    each : (i : ℕ) → Through (row T e) 0 (count e) i → (ms : List ℕ) → row T e i ≡ unread ms → ⊥
    each i t ms u = let p : IsHere T V N (e.main.block + i) × IsHere T V N (e.reserve.block + i) = pair_here T V N e all i (omega (arith, t.1)) (through_reached T e i t) in
        described_read V (e.main.block + i) ms (sym (main_is T V (e.main.block + i) (e.reserve.block + i) (p.0).0) ∙ u)

    go : (x : Answer (List Descriptor)) → read_positions (map (row T e) (range_with_len 0 (count e))) ≡ x → and_then x (layout_of P N) ≡ holes ns → ⊥
    go (found ds) p r = late_holes (layout_of P N ds) ns (late_layout_of P N ds) r
    go (holes ms) p r = no_holes (row T e) 0 (count e) each ms p
    go (faulty f) p r = cc

-- ---- copies that say the same
says : (V : Volume) (m r : ℕ) → contents_differ (V m) m (V r) r ≡ false → SaysTheSame V m r
says V m r h = record {
  soundness = (by (is_sound (V m) m) (is_sound (V r) r) (nat_eq (identifier (V m)) (identifier (V r))) (is_of_layout (identifier (V m))) (bytes_eq (drop 16 (V m)) (drop 16 (V r))) h).0;
  identifiers = λ s. eqb-true (identifier (V m)) (identifier (V r)) ((by (is_sound (V m) m) (is_sound (V r) r) (nat_eq (identifier (V m)) (identifier (V r))) (is_of_layout (identifier (V m))) (bytes_eq (drop 16 (V m)) (drop 16 (V r))) h).1 s);
  contents = λ s l. (bytes_eq-Decides (drop 16 (V m)) (drop 16 (V r))).0 ((by (is_sound (V m) m) (is_sound (V r) r) (nat_eq (identifier (V m)) (identifier (V r))) (is_of_layout (identifier (V m))) (bytes_eq (drop 16 (V m)) (drop 16 (V r))) h).2 s l);
}
  where
    by : (s1 s2 i l b : Bool) → not (cond s1 (s2 && (i && (not l || b))) (not s2)) ≡ false → (s1 ≡ s2) × (s1 ≡ true → i ≡ true) × (s1 ≡ true → l ≡ true → b ≡ true)
    by false false i l b h = (refl, (λ s. absurd (let z : ⊥ = cc in z)), λ s q. absurd (let z : ⊥ = cc in z))
    by false true i l b h = absurd (let z : ⊥ = cc in z)
    by true false i l b h = absurd (let z : ⊥ = cc in z)
    by true true false l b h = absurd (let z : ⊥ = cc in z)
    by true true true false b h = (refl, (λ s. refl), λ s q. absurd (let z : ⊥ = cc in z))
    by true true true true true h = (refl, (λ s. refl), λ s q. refl)
    by true true true true false h = absurd (let z : ⊥ = cc in z)

pub says_the_same : (T : Blocks) (V : Volume) (N : ℕ) (e : AnchorExtents) (i : ℕ) → IsHere T V N (e.main.block + i) × IsHere T V N (e.reserve.block + i)
    → differ_at T e i ≡ false → SaysTheSame V (e.main.block + i) (e.reserve.block + i)
says_the_same T V N e i p d = says V (e.main.block + i) (e.reserve.block + i)
    (sym (λ x. known_differ ((p.0).0 x) (e.main.block + i) ((p.1).0 x) (e.reserve.block + i)) ∙ d)

-- after a position that is reached and goes on with all known the next one is reached
next_reached : (T : Blocks) (V : Volume) (N : ℕ) (e : AnchorExtents) → AreHere T V N (pairs_in T e) → (i : ℕ) → i < count e → reaches T e i ≡ true
    → goes_on (row (complete V N) e i) ≡ true → reaches T e (suc i) ≡ true
next_reached T V N e all i l r g = let n : i + 1 ≡ suc i = omega arith in
    let p : IsHere T V N (e.main.block + i) × IsHere T V N (e.reserve.block + i) = pair_here T V N e all i l r in
    let same : row T e i ≡ row (complete V N) e i = row_same T (complete V N) (e.main.block + i) (e.reserve.block + i) (same_state T V N (e.main.block + i) p.0) (same_state T V N (e.reserve.block + i) p.1) in
    subst (λ k. reaches T e k ≡ true) n (reaches_next T e i r (ap goes_on same ∙ g))

-- a position that goes on with all known is reached
pub whole_reached : (T : Blocks) (V : Volume) (N : ℕ) (e : AnchorExtents) → AreHere T V N (pairs_in T e) → (i : ℕ) → i < count e
    → ((j : ℕ) → j < i → goes_on (row (complete V N) e j) ≡ true) → reaches T e i ≡ true
whole_reached T V N e all zero l h = refl
whole_reached T V N e all (suc i) l h = next_reached T V N e all i (omega (arith, l)) (whole_reached T V N e all i (omega (arith, l)) (λ j k. h j (omega (arith, k)))) (h i (omega arith))

-- ---- the reserve sequence, where the copies say the same
shorter_exchanged : (e : AnchorExtents) → shorter (exchanged e) ≡ shorter e
shorter_exchanged e = go (nat_le e.reserve.length e.main.length) refl (nat_le e.main.length e.reserve.length) refl
  where
    go : (a : Bool) → nat_le e.reserve.length e.main.length ≡ a → (b : Bool) → nat_le e.main.length e.reserve.length ≡ b
        → cond a e.reserve.length e.main.length ≡ cond b e.main.length e.reserve.length
    go true p true q = let l : e.reserve.length ≤ e.main.length = leb-true e.reserve.length e.main.length p in
        let m : e.main.length ≤ e.reserve.length = leb-true e.main.length e.reserve.length q in omega (arith, l, m)
    go true p false q = refl
    go false p true q = refl
    go false p false q = absurd (let l : e.main.length < e.reserve.length = leb-false e.reserve.length e.main.length p in
        let m : e.reserve.length < e.main.length = leb-false e.main.length e.reserve.length q in let z : ⊥ = omega (arith, l, m) in z)

extents_exchanged : (N : ℕ) (e : AnchorExtents) → are_extents_by Wide N e ≡ true → are_extents_by Wide N (exchanged e) ≡ true
extents_exchanged N e b = let p : (is_extent N e.main ≡ true) × (is_extent N e.reserve ≡ true) = both (is_extent N e.main) (is_extent N e.reserve) b in
    λ i. p.1 i && p.0 i

reserve_at : (T : Blocks) (N : ℕ) (e : AnchorExtents) → anchor T N ≡ found e → are_extents_by Wide N (exchanged e) ≡ true
    → reserve_layout_by Wide T N ≡ and_then (read_positions (map (needs T (exchanged e)) (range_with_len 0 (count e)))) (layout_of Wide N)
unfolding reserve_layout_by reserve_sequence_by
reserve_at T N e q b = ap (λ x. and_then (and_then x (λ e. sequence_at Wide T N (exchanged e))) (layout_of Wide N)) q
    ∙ ap (λ c. and_then (cond c (read_positions (positions T (shared (exchanged e)))) (faulty Extents)) (layout_of Wide N)) b
    ∙ sym (layout_by_needed Wide N (read_positions (positions T (shared (exchanged e)))))
    ∙ sym (ap (λ x. and_then x (layout_of Wide N)) (reads_needed (row T (exchanged e)) (range_with_len 0 (count (exchanged e)))))
    ∙ ap (λ n. and_then (read_positions (map (needs T (exchanged e)) (range_with_len 0 (n / 2048)))) (layout_of Wide N)) (shorter_exchanged e)

rows_same : (T : Blocks) (V : Volume) (N : ℕ) (e : AnchorExtents) → AreHere T V N (pairs_in T e) → ((i : ℕ) → i < count e → reaches T e i ≡ true → differ_at T e i ≡ false)
    → read_positions (map (needs T (exchanged e)) (range_with_len 0 (count e))) ≡ read_positions (map (needs T e) (range_with_len 0 (count e)))
rows_same T V N e all alike = done (reads_alike (needs T (exchanged e)) (needs T e) (λ i. []) (λ i. ⊤) (λ i. ⊥) 0 (count e) each)
  where
    each : (i : ℕ) → Through (needs T e) 0 (count e) i → Alike (needs T (exchanged e)) (needs T e) (λ i. []) (λ i. ⊤) (λ i. ⊥) i
    each i t = let m = e.main.block + i in let r = e.reserve.block + i in
        let l : i < count e = omega (arith, t.1) in
        let reached : reaches T e i ≡ true = reaches_all T e i (λ j k. sym (goes_needed (row T e j)) ∙ t.2 j (omega arith) k) in
        let p : IsHere T V N m × IsHere T V N r = pair_here T V N e all i l reached in
        inl (
          ap needed (main_is T V r m (p.1).0) ∙ same_described V m r (says_the_same T V N e i p (alike i l reached)) ∙ sym (ap needed (main_is T V m r (p.0).0)),
          tt,
        )

    done : ReadsAlike (needs T (exchanged e)) (needs T e) (λ i. []) (λ i. ⊤) (λ i. ⊥) 0 (count e)
        → read_positions (map (needs T (exchanged e)) (range_with_len 0 (count e))) ≡ read_positions (map (needs T e) (range_with_len 0 (count e)))
    done (all_same is k) = is
    done (one_unread i t is u) = absurd u

-- so what counts is what the main sequence gives
pub main_counts : (P : Profile) (T : Blocks) (V : Volume) (N : ℕ) (e : AnchorExtents) → anchor T N ≡ found e → are_extents_by P N e ≡ true → AreHere T V N (pairs_in T e)
    → ((i : ℕ) → i < count e → reaches T e i ≡ true → differ_at T e i ≡ false) → layout_by P T N ≡ main_layout_by P T N
unfolding layout_by
main_counts Strict T V N e q b all alike = refl
main_counts Wide T V N e q b all alike =
    let same : reserve_layout_by Wide T N ≡ main_layout_by Wide T N = reserve_at T N e q (extents_exchanged N e b)
    ∙ ap (λ x. and_then x (layout_of Wide N)) (rows_same T V N e all alike) ∙ sym (needed_at Wide T N e q b) in
    ap (or_reserve Wide (main_layout_by Wide T N)) same ∙ twice Wide (main_layout_by Wide T N)

-- ---- extents that are not taken are a fault
pub unfit : (P : Profile) (T : Blocks) (N : ℕ) (e : AnchorExtents) → anchor T N ≡ found e → are_extents_by P N e ≡ false → layout_by P T N ≡ faulty Extents
unfolding layout_by main_layout_by sequence_by
unfit P T N e q b = by P (ap (λ x. and_then (and_then x (sequence_at P T N)) (layout_of P N)) q
    ∙ ap (λ c. and_then (cond c (read_positions (positions T (shared e))) (faulty Extents)) (layout_of P N)) b)
  where
    by : (R : Profile) → main_layout_by P T N ≡ faulty Extents → or_reserve R (main_layout_by P T N) (reserve_layout_by P T N) ≡ faulty Extents
    by Strict m = m
    by Wide m = ap (λ x. or_reserve Wide x (reserve_layout_by P T N)) m
