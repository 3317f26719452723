-- The layout of a lawful volume is the one that the tables give.
use Rattle.std.proofs.Common.{◌≡◌, refl, sym, ◌∙◌, ap, subst, inl, inr, ℕ, ◌+◌, ◌/◌, ◌<◌, ◌≤◌, Bool, true, false, not, List, [], ◌∷◌, map, cond, ◌&&◌, arith, Some, None, nat_eq}
use Rattle.std.specs.Prelude.{zero, suc, find, option_map, take_while}
use Rattle.std.specs.List.{range_with_len}
use Rattle.std.proofs.lemmas.List.Sums.{take_while-cons}
use Rattle.udfs_lattice.specs.States.{IsBlock}
use Rattle.udfs_lattice.specs.Volumes.{Volume, complete, not_known}
use Rattle.udfs_lattice.proofs.Inclusion.{Includes, included}
use Rattle.udfs_tag.specs.Tags.{identifier, is_sound, is_valid}
use Rattle.udfs_volume.specs.Answers.{found}
use Rattle.udfs_volume.specs.declared.anchors.AnchorExtents.{AnchorExtents}
use Rattle.udfs_volume.specs.Layout.{layout_of, main_layout_by}
use Rattle.udfs_volume.specs.Sequence.{anchor, anchor_here, anchor_or, anchor_places, extents_of, first_anchor, or_else, shorter}
use Rattle.udfs_volume.specs.Standard.{main_blocks, standard_anchor}
use Rattle.udfs_volume.proofs.Known.{both, complete-known}
use Rattle.udfs_volume.proofs.LayoutLaw.{are_extents_of, main_fits, place_fits}
use Rattle.udfs_volume.proofs.ReserveLaw.{main_of_lawful}
use Rattle.udfs_lawfulness.specs.EcmaLaws.{AreSound, descriptor_in}
use Rattle.udfs_lawfulness.specs.Layouts.{Placed}
use Rattle.udfs_lawfulness.proofs.PublicLaws.{anchors_are_by_the_table, layouts_are_by_the_tables}
use Rattle.udfs_lawfulness.specs.ByTables.{LayoutByTables}

-- ---- lists
found_passes : (test : ℕ → Bool) (ns : List ℕ) (n : ℕ) → find test ns ≡ Some n → Includes ns n × (test n ≡ true)
found_passes test [] n e = absurd (let z : ⊥ = cc in z)
found_passes test (m ∷ ns) n e = by (test m) refl e (found_passes test ns n)
  where
    by : (b : Bool) → test m ≡ b → cond b (Some m) (find test ns) ≡ Some n → (find test ns ≡ Some n → Includes ns n × (test n ≡ true)) → Includes (m ∷ ns) n × (test n ≡ true)
    by true t e more = let q : m ≡ n = cc in (inl q, ap test (sym q) ∙ t)
    by false t e more = let r : Includes ns n × (test n ≡ true) = more e in (inr r.0, r.1)

taken : (test : ℕ → Bool) (ns : List ℕ) (n : ℕ) → Includes (take_while test ns) n → (test n ≡ true) × Includes ns n
taken test [] n i = absurd i
taken test (m ∷ ns) n i = by (test m) refl (subst (λ xs. Includes xs n) (take_while-cons test m ns) i) (taken test ns n)
  where
    by : (b : Bool) → test m ≡ b → Includes (cond (test m) (m ∷ take_while test ns) []) n → (Includes (take_while test ns) n → (test n ≡ true) × Includes ns n) → (test n ≡ true) × Includes (m ∷ ns) n
    by true t i more = first (subst (λ c. Includes (cond c (m ∷ take_while test ns) []) n) t i)
      where
        first : Includes (m ∷ take_while test ns) n → (test n ≡ true) × Includes (m ∷ ns) n
        first (inl q) = (ap test (sym q) ∙ t, inl q)
        first (inr j) = let r : (test n ≡ true) × Includes ns n = more j in (r.0, inr r.1)
    by false t i more = absurd (subst (λ c. Includes (cond c (m ∷ take_while test ns) []) n) t i)

in_range : (a n m : ℕ) → Includes (range_with_len a n) m → m < a + n
in_range a zero m i = absurd i
in_range a (suc n) m (inl e) = omega (arith, e)
in_range a (suc n) m (inr i) = let l : m < a + 1 + n = in_range (a + 1) n m i in omega (arith, l)

placed_from : (volume : Volume) (ns : List ℕ) (w : Placed) → Includes (map (λ n. (n, volume n)) ns) w → (n : ℕ) × Includes ns n × ((n, volume n) ≡ w)
placed_from volume [] w i = absurd i
placed_from volume (n ∷ ns) w (inl e) = (n, inl refl, e)
placed_from volume (n ∷ ns) w (inr i) = let r : (m : ℕ) × Includes ns m × ((m, volume m) ≡ w) = placed_from volume ns w i in (r.0, inr r.1, r.2)

same_descriptors : (volume : Volume) (ns : List ℕ) → map (λ (w : Placed). descriptor_in w.1) (map (λ n. (n, volume n)) ns) ≡ map (λ n. descriptor_in (volume n)) ns
same_descriptors volume [] = refl
same_descriptors volume (n ∷ ns) = ap (λ ds. descriptor_in (volume n) ∷ ds) (same_descriptors volume ns)

-- ---- the anchor of the complete volume
first_is : (V : Volume) (N : ℕ) (ns : List ℕ) → ((n : ℕ) → Includes ns n → n ≤ N) → first_anchor (complete V N) ns ≡ option_map V (find (λ n. is_valid (V n) n 2) ns)
first_is V N [] h = refl
first_is V N (n ∷ ns) h = ap (λ s. or_else (anchor_here n s) (first_anchor (complete V N) ns)) (complete-known V N n (h n (inl refl)))
    ∙ go (is_valid (V n) n 2) (first_is V N ns (λ m i. h m (inr i)))
  where
    go : (b : Bool) → first_anchor (complete V N) ns ≡ option_map V (find (λ n. is_valid (V n) n 2) ns)
        → or_else (cond b (Some (V n)) None) (first_anchor (complete V N) ns) ≡ option_map V (cond b (Some n) (find (λ n. is_valid (V n) n 2) ns))
    go true e = refl
    go false e = e

anchor_is : (V : Volume) (N n : ℕ) → 513 ≤ N → standard_anchor V N ≡ Some n → anchor (complete V N) N ≡ found (extents_of (V n))
unfolding anchor
anchor_is V N n h e = ap (λ o. anchor_or o (not_known (complete V N) (anchor_places N))) (first_is V N (anchor_places N) (λ m i. place_fits N m h i) ∙ ap (option_map V) e)

-- ---- the layout
pub layout_by_tables : LayoutByTables
layout_by_tables profile volume last lawful opened o = record {
  place = o.anchor;
  first = o.is_anchor;
  extents = extents_of (volume o.anchor);
  anchor = (anchors_are_by_the_table (volume o.anchor) (block o.anchor inside) o.anchor (extents_of (volume o.anchor))).0 (valid.1, refl);
  layout = (layouts_are_by_the_tables profile last (map (λ n. (n, volume n)) blocks) sound opened.layout).0 (ap (layout_of profile last) (same_descriptors volume blocks) ∙ o.layout_is);
}
  where
    from : 513 ≤ last
    from = lawful.is_volume.volume_is.from

    block : (n : ℕ) → n ≤ last → IsBlock (volume n)
    block n l = lawful.is_volume.volume_is.each n l

    e : AnchorExtents
    e = extents_of (volume o.anchor)

    blocks : List ℕ
    blocks = main_blocks volume (extents_of (volume o.anchor))

    valid : Includes (anchor_places last) o.anchor × (is_valid (volume o.anchor) o.anchor 2 ≡ true)
    valid = found_passes (λ n. is_valid (volume n) n 2) (anchor_places last) o.anchor o.is_anchor

    inside : o.anchor ≤ last
    inside = place_fits last o.anchor from valid.0

    laid : main_layout_by profile (complete volume last) last ≡ found lawful.is_volume.layout.laid_out.0
    laid = main_of_lawful profile volume last from lawful.is_volume.layout

    fits : e.main.block + shorter e / 2048 ≤ last + 1
    fits = main_fits profile last e (are_extents_of profile volume last e lawful.is_volume.layout.laid_out.0 (anchor_is volume last o.anchor from o.is_anchor) laid)

    sound : AreSound (map (λ n. (n, volume n)) blocks)
    sound w c = subst (λ (x : Placed). IsBlock x.1 × (is_sound x.1 x.0 ≡ true)) r.2 (block r.0 low, (both (is_sound (volume r.0) r.0) (not (nat_eq (identifier (volume r.0)) 8)) t.0).0)
      where
        r : (n : ℕ) × Includes blocks n × ((n, volume n) ≡ w)
        r = placed_from volume blocks w (included (map (λ n. (n, volume n)) blocks) w c)

        t : ((is_sound (volume r.0) r.0 && not (nat_eq (identifier (volume r.0)) 8)) ≡ true) × Includes (range_with_len e.main.block (shorter e / 2048)) r.0
        t = taken (λ n. is_sound (volume n) n && not (nat_eq (identifier (volume n)) 8)) (range_with_len e.main.block (shorter e / 2048)) r.0 r.1

        low : r.0 ≤ last
        low = let l : r.0 < e.main.block + shorter e / 2048 = in_range e.main.block (shorter e / 2048) r.0 t.1 in omega (arith, l, fits)
