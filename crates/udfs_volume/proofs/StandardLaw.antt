-- With all blocks known, the layout is that of the first anchor and the main sequence.
use Rattle.std.proofs.Common.{◌≡◌, refl, sym, ◌∙◌, ap, subst, inl, inr, ℕ, ◌+◌, ◌/◌, ◌<◌, ◌≤◌, Bool, true, false, not, List, [], ◌∷◌, drop, map, filter, cond, ◌&&◌, ◌||◌, arith, Option, Some, None, nat_eq}
use Rattle.std.specs.Prelude.{take_while, find, zero, suc, option_map}
use Rattle.std.specs.List.{range_with_len}
use Rattle.std.proofs.lemmas.List.Sums.{take_while-cons}
use Rattle.udfs_lattice.specs.Volumes.{Blocks, Volume, complete, not_known}
use Rattle.udfs_lattice.proofs.Inclusion.{Includes}
use Rattle.udfs_tag.specs.Tags.{is_valid, is_sound, identifier}
use Rattle.udfs_volume.specs.Answers.{Answer, found, holes, faulty, and_then}
use Rattle.udfs_volume.specs.declared.faults.VolumeFault.TheVariants.{Pointer}
use Rattle.udfs_volume.specs.declared.profiles.Profile.{Profile}
use Rattle.udfs_volume.specs.declared.anchors.AnchorExtents.{AnchorExtents}
use Rattle.udfs_volume.specs.Sequence.{extents_of, anchor, anchor_places, anchor_or, first_anchor, or_else, anchor_here, are_extents_by, shared, shorter, Position, Descriptor, invalid, descriptor, position, positions, goes_on, read_positions, ended_by}
use Rattle.udfs_volume.specs.Layout.{layout_by, layout_of, main_layout_by}
use Rattle.udfs_volume.specs.Standard.{standard_anchor, standard_layout_by, main_sequence}
use Rattle.udfs_volume.specs.Laws.{StandardLayoutBy, IsLawfulLayoutBy}
use Rattle.udfs_volume.proofs.Known.{complete-known}
use Rattle.udfs_volume.proofs.Bounds.{and_then-found, found_same}
use Rattle.udfs_volume.proofs.Positions.{described, main_is, before, read-on, read-stop}
use Rattle.udfs_volume.proofs.LayoutLaw.{place_fits, are_extents_of, main_fits, layout_at}
use Rattle.udfs_volume.proofs.ReserveLaw.{main_of_lawful, whole_is_main}

-- over the complete table the first anchor is the first valid one
first_is : (V : Volume) (N : ℕ) (ns : List ℕ) → ((n : ℕ) → Includes ns n → n ≤ N) → first_anchor (complete V N) ns ≡ option_map V (find (λ n. is_valid (V n) n 2) ns)
first_is V N [] h = refl
first_is V N (n ∷ ns) h = ap (λ s. or_else (anchor_here n s) (first_anchor (complete V N) ns)) (complete-known V N n (h n (inl refl)))
    ∙ go (is_valid (V n) n 2) (first_is V N ns (λ m i. h m (inr i)))
  where
    go : (b : Bool) → first_anchor (complete V N) ns ≡ option_map V (find (λ n. is_valid (V n) n 2) ns)
        → or_else (cond b (Some (V n)) None) (first_anchor (complete V N) ns) ≡ option_map V (cond b (Some n) (find (λ n. is_valid (V n) n 2) ns))
    go true e = refl
    go false e = e

none_found : (test : ℕ → Bool) (ns : List ℕ) → find test ns ≡ None → filter test ns ≡ []
none_found test [] e = refl
none_found test (n ∷ ns) e = go (test n) e (none_found test ns)
  where
    go : (b : Bool) → cond b (Some n) (find test ns) ≡ None → (find test ns ≡ None → filter test ns ≡ []) → cond b (n ∷ filter test ns) (filter test ns) ≡ []
    go true e later = absurd (let z : ⊥ = cc in z)
    go false e later = later e

standard_anchor_is : (profile : Profile) (V : Volume) (N : ℕ) → 513 ≤ N → IsLawfulLayoutBy profile V N → (n : ℕ) × (standard_anchor V N ≡ Some n) × (anchor (complete V N) N ≡ found (extents_of (V n)))
unfolding anchor
standard_anchor_is profile V N h lw = go (standard_anchor V N) refl
  where
    go : (o : Option ℕ) → standard_anchor V N ≡ o → (n : ℕ) × (standard_anchor V N ≡ Some n) × (anchor (complete V N) N ≡ found (extents_of (V n)))
    go None e = absurd (lw.anchored (none_found (λ n. is_valid (V n) n 2) (anchor_places N) e))
    go (Some n) e = (
      n,
      e,
      ap (λ o. anchor_or o (not_known (complete V N) (anchor_places N)))
          (first_is V N (anchor_places N) (λ m i. place_fits N m h i) ∙ ap (option_map V) e),
    )

abbrev desc : Volume → ℕ → Descriptor
desc V n = record { identifier = identifier (V n); content = drop 16 (V n) }

abbrev runs : Volume → ℕ → Bool
runs V n = is_sound (V n) n && not (nat_eq (identifier (V n)) 8)

before-found : (p : Position) (x : Answer (List Descriptor)) (ds : List Descriptor) → before p x ≡ found ds → (es : List Descriptor) × (x ≡ found es) × (before p (found es) ≡ found ds)
before-found p (found es) ds e = (es, refl, e)
before-found p (holes ns) ds e = absurd (let z : ⊥ = cc in z)
before-found p (faulty f) ds e = absurd (let z : ⊥ = cc in z)

-- what the main blocks of the complete table give
main_reads : (V : Volume) (m c n : ℕ) (ds : List Descriptor) → read_positions (map (λ i. described V (m + i)) (range_with_len c n)) ≡ found ds
    → map (desc V) (take_while (runs V) (range_with_len (m + c) n)) ≡ ds
main_reads V m c zero ds e = found_same [] ds e
main_reads V m c (suc n) ds e = ap (map (desc V)) (take_while-cons (runs V) x (range_with_len (x + 1) n))
    ∙ go (is_sound (V x) x) refl (nat_eq (identifier (V x)) 3) refl (nat_eq (identifier (V x)) 8) refl
    (λ es h. ap (λ y. map (desc V) (take_while (runs V) (range_with_len y n))) (turn m c) ∙ main_reads V m (c + 1) n es h)
  where
    x : ℕ
    x = m + c

    turn : (m c : ℕ) → m + c + 1 ≡ m + (c + 1)
    turn m c = omega arith

    rest : List Position
    rest = map (λ i. described V (m + i)) (range_with_len (c + 1) n)

    Later : Type 0
    Later = (es : List Descriptor) → read_positions rest ≡ found es → map (desc V) (take_while (runs V) (range_with_len (x + 1) n)) ≡ es

    is_descriptor : is_sound (V x) x ≡ true → described V x ≡ descriptor (desc V x)
    is_descriptor s = ap (λ b. cond b (descriptor (desc V x)) invalid) s

    runs_by : (s b : Bool) → is_sound (V x) x ≡ s → nat_eq (identifier (V x)) 8 ≡ b → runs V x ≡ (s && not b)
    runs_by s b p q = λ i. p i && not (q i)

    goes_by : (b3 b8 : Bool) → is_sound (V x) x ≡ true → nat_eq (identifier (V x)) 3 ≡ b3 → nat_eq (identifier (V x)) 8 ≡ b8 → goes_on (described V x) ≡ not (b8 || b3)
    goes_by b3 b8 s p q = ap goes_on (is_descriptor s) ∙ (λ i. not (q i || p i))

    Goal : Bool → Type 0
    Goal b = map (desc V) (cond b (x ∷ take_while (runs V) (range_with_len (x + 1) n)) []) ≡ ds

    goal_is : (b : Bool) → runs V x ≡ b → Goal b → Goal (runs V x)
    goal_is b p g = subst Goal (sym p) g

    stopped : goes_on (described V x) ≡ false → (a : Answer (List Descriptor)) → ended_by (Some (described V x)) [] ≡ a → a ≡ found ds
    stopped g a p = sym p ∙ sym (read-stop (described V x) rest g) ∙ e

    go : (s : Bool) → is_sound (V x) x ≡ s → (b3 : Bool) → nat_eq (identifier (V x)) 3 ≡ b3 → (b8 : Bool) → nat_eq (identifier (V x)) 8 ≡ b8 → Later
        → map (desc V) (cond (runs V x) (x ∷ take_while (runs V) (range_with_len (x + 1) n)) []) ≡ ds
    go false s b3 p b8 q later = goal_is false (runs_by false b8 s q) (found_same [] ds (stopped (ap goes_on invalid_is) (found []) (ap (λ z. ended_by (Some z) []) invalid_is)))
      where
        invalid_is : described V x ≡ invalid
        invalid_is = ap (λ b. cond b (descriptor (desc V x)) invalid) s
    go true s true p b8 q later = absurd (
        let f : faulty Pointer ≡ found ds = stopped (goes_by true b8 s p q ∙ not_either b8) (faulty Pointer)
        (ap (λ z. ended_by (Some z) []) (is_descriptor s) ∙ ap (λ b. cond b (faulty Pointer) (found [])) p) in
        let z : ⊥ = cc in z)
      where
        not_either : (b : Bool) → not (b || true) ≡ false
        not_either true = refl
        not_either false = refl
    go true s false p true q later = goal_is false (runs_by true true s q) (found_same [] ds (stopped (goes_by false true s p q) (found [])
        (ap (λ z. ended_by (Some z) []) (is_descriptor s) ∙ ap (λ b. cond b (faulty Pointer) (found [])) p)))
    go true s false p false q later = goal_is true (runs_by true false s q)
        (let r : (es : List Descriptor) × (read_positions rest ≡ found es) × (before (described V x) (found es) ≡ found ds) =
        before-found (described V x) (read_positions rest) ds (sym (read-on (described V x) rest (goes_by false false s p q)) ∙ e) in
        ap (λ z. desc V x ∷ z) (later r.0 r.1) ∙ found_same (desc V x ∷ r.0) ds (sym (ap (λ z. before z (found r.0)) (is_descriptor s)) ∙ r.2))

rows_same : (p q : ℕ → Position) (c n : ℕ) → ((i : ℕ) → c ≤ i → i < c + n → p i ≡ q i) → map p (range_with_len c n) ≡ map q (range_with_len c n)
rows_same p q c zero h = refl
rows_same p q c (suc n) h = λ i. h c (omega arith) (omega arith) i ∷ rows_same p q (c + 1) n (λ j l m. h j (omega (arith, l)) (omega (arith, m))) i

pub standard_layout_law : (profile : Profile) → StandardLayoutBy profile
standard_layout_law profile V N hv lw = go (standard_anchor_is profile V N hv.from lw)
  where
    C : Blocks
    C = complete V N

    go : (n : ℕ) × (standard_anchor V N ≡ Some n) × (anchor C N ≡ found (extents_of (V n))) → (n : ℕ) × (standard_anchor V N ≡ Some n) × (standard_layout_by profile V N n ≡ layout_by profile C N)
    go (n, f, q) = (n, f, ap (layout_of profile N) main_is_ds ∙ sym (by ∙ ap (λ x. and_then x (layout_of profile N)) r.1) ∙ whole_is_main profile V N hv.from lw)
      where
        e : AnchorExtents
        e = extents_of (V n)

        laid : main_layout_by profile C N ≡ found lw.laid_out.0
        laid = main_of_lawful profile V N hv.from lw

        b : are_extents_by profile N e ≡ true
        b = are_extents_of profile V N e lw.laid_out.0 q laid

        by : main_layout_by profile C N ≡ and_then (read_positions (positions C (shared e))) (layout_of profile N)
        by = layout_at profile C N e q b

        r : (ds : List Descriptor) × (read_positions (positions C (shared e)) ≡ found ds) × (layout_of profile N ds ≡ found lw.laid_out.0)
        r = and_then-found (read_positions (positions C (shared e))) (layout_of profile N) lw.laid_out.0 (sym by ∙ laid)

        rows : map (λ i. described V (e.main.block + i)) (range_with_len 0 (shorter e / 2048)) ≡ positions C (shared e)
        rows = rows_same (λ i. described V (e.main.block + i)) (λ i. position C (e.main.block + i) (e.reserve.block + i)) 0 (shorter e / 2048)
            (λ i l m. sym (main_is C V (e.main.block + i) (e.reserve.block + i) (complete-known V N (e.main.block + i)
            (let h : e.main.block + shorter e / 2048 ≤ N + 1 = main_fits profile N e b in omega (arith, m, h)))))

        none : (q : ℕ) → q ≡ q + 0
        none q = omega arith

        main_is_ds : main_sequence V e ≡ r.0
        main_is_ds = ap (λ y. map (desc V) (take_while (runs V) (range_with_len y (shorter e / 2048)))) (none e.main.block)
            ∙ main_reads V e.main.block 0 (shorter e / 2048) r.0 (ap read_positions rows ∙ r.1)
