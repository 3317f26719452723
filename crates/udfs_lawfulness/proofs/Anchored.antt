-- The layout where nothing that is known contradicts it, and each block that decides it is known: it is the volume's, and lawful.
use Rattle.std.proofs.Common.{◌≡◌, ◌≢◌, refl, sym, ◌∙◌, ap, subst, inl, inr, ℕ, ◌+◌, ◌<◌, Bool, true, false, not, cond, ◌&&◌, List, [], ◌∷◌, arith, Option, Some, None}
use Rattle.std.specs.Prelude.{find, is_none, option_map, Contains}
use Rattle.std.specs.Str.{bytes_eq}
use Rattle.std.proofs.lemmas.Slice.Eq.{bytes_eq-Decides}
use Rattle.udfs_lattice.specs.States.{is_known}
use Rattle.udfs_lattice.specs.Volumes.{Agrees, Blocks, Volume, complete, not_known}
use Rattle.udfs_lattice.proofs.Inclusion.{Includes, included}
use Rattle.udfs_tag.specs.Fields.{part}
use Rattle.udfs_tag.specs.Tags.{is_valid}
use Rattle.udfs_volume.specs.declared.anchors.AnchorExtents.{AnchorExtents}
use Rattle.udfs_volume.specs.declared.faults.VolumeFault.TheVariants.{Extents, NoAnchor}
use Rattle.udfs_volume.specs.declared.profiles.Profile.{Profile}
use Rattle.udfs_volume.specs.declared.profiles.Profile.TheVariants.{Strict, Wide}
use Rattle.udfs_volume.specs.Answers.{Answer, found, holes, faulty, and_then}
use Rattle.udfs_volume.specs.Differences.{anchors_apart, anchors_differ, apart_from, are_apart, copies_differ, differ_at, differ_by, differ_in, has_anchor, named_at, reaches}
use Rattle.udfs_volume.specs.Laws.{IsLawfulLayoutBy, IsThroughEnd, SaysTheSame, valid_anchors}
use Rattle.udfs_volume.specs.Layout.{Layout, layout_by, layout_of, main_layout_by, or_reserve, reserve_layout_by}
use Rattle.udfs_volume.specs.Sequence.{Bytes, anchor, anchor_here, anchor_or, anchor_places, are_extents_by, extents_of, first_anchor, sequence_at, sequence_by, shared}
use Rattle.udfs_volume.proofs.Choosing.{or_found}
use Rattle.udfs_volume.proofs.Known.{FirstAnchor, Includes-filter, Includes-from_filter, first_anchor_lem, none_known, one_known, true_false}
use Rattle.udfs_volume.proofs.LayoutLaw.{count}
use Rattle.udfs_lawfulness.specs.Clear.{IsClear}
use Rattle.udfs_lawfulness.specs.Sequences.{pairs_in}
use Rattle.udfs_lawfulness.specs.Structures.{of_layout}
use Rattle.udfs_lawfulness.proofs.Found.{found_in, map_none, none_at, none_found}
use Rattle.udfs_lawfulness.proofs.Known.{AreHere, IsHere, same_state}
use Rattle.udfs_lawfulness.proofs.Walked.{anchor_same, main_counts, main_no_holes, main_same, pair_here, says_the_same, unfit, whole_reached}

-- ---- the anchor
no_anchor : (P : Profile) (T : Blocks) (N : ℕ) → anchor T N ≡ faulty NoAnchor → layout_by P T N ≡ faulty NoAnchor
unfolding layout_by main_layout_by sequence_by
no_anchor P T N q = by P (ap (λ x. and_then (and_then x (sequence_at P T N)) (layout_of P N)) q)
  where
    by : (R : Profile) → main_layout_by P T N ≡ faulty NoAnchor → or_reserve R (main_layout_by P T N) (reserve_layout_by P T N) ≡ faulty NoAnchor
    by Strict m = m
    by Wide m = ap (λ x. or_reserve Wide x (reserve_layout_by P T N)) m

by_first : (T : Blocks) (N : ℕ) → not_known T (anchor_places N) ≡ [] → (o : Option Bytes) → first_anchor T (anchor_places N) ≡ o → anchor T N ≡ anchor_or o []
unfolding anchor
by_first T N none o q = λ i. anchor_or (q i) (none i)

none_unread : (T : Blocks) (xs : List ℕ) → ((n : ℕ) → Includes xs n → is_known (T n) ≡ true) → not_known T xs ≡ []
none_unread T [] h = refl
none_unread T (x ∷ xs) h = ap (λ b. cond (not b) (x ∷ not_known T xs) (not_known T xs)) (h x (inl refl)) ∙ none_unread T xs (λ n i. h n (inr i))

-- the anchor that is found, whose extents are taken
pub record Anchored (P : Profile) (T : Blocks) (N : ℕ) : Type 0 where
  pub bytes : Bytes
  pub first : first_anchor T (anchor_places N) ≡ Some bytes
  pub is : anchor T N ≡ found (extents_of bytes)
  pub taken : are_extents_by P N (extents_of bytes) ≡ true

pub anchored : (P : Profile) (T : Blocks) (V : Volume) (N : ℕ) → IsClear P T N → AreHere T V N (anchor_places N) → Anchored P T N
anchored P T V N clear here = go (first_anchor T (anchor_places N)) refl
  where
    none : not_known T (anchor_places N) ≡ []
    none = none_unread T (anchor_places N) (λ n i. ap is_known (here n i).0)

    fits : (e : AnchorExtents) → anchor T N ≡ found e → (b : Bool) → are_extents_by P N e ≡ b → are_extents_by P N e ≡ true
    fits e a true q = q
    fits e a false q = absurd (clear.no_fault Extents (of_layout (unfit P T N e a q)))

    go : (o : Option Bytes) → first_anchor T (anchor_places N) ≡ o → Anchored P T N
    go None q = absurd (clear.no_fault NoAnchor (of_layout (no_anchor P T N (by_first T N none None q))))
    go (Some bytes) q = let a : anchor T N ≡ found (extents_of bytes) = by_first T N none (Some bytes) q in
        record { bytes = bytes; first = q; is = a; taken = fits (extents_of bytes) a (are_extents_by P N (extents_of bytes)) refl }

-- ---- the anchors
named : (T : Blocks) (V : Volume) (N n : ℕ) → IsHere T V N n → is_valid (V n) n 2 ≡ true → named_at T n ≡ Some (part (V n) 16 16)
named T V N n h v = ap (λ s. option_map (λ (bytes : Bytes). part bytes 16 16) (anchor_here n s)) h.0
    ∙ ap (λ b. option_map (λ (bytes : Bytes). part bytes 16 16) (cond b (Some (V n)) None)) v

not_none : (o : Option Bytes) → not (is_none o) ≡ true → (x : Bytes) × (o ≡ Some x)
not_none None e = absurd (let z : ⊥ = cc in z)
not_none (Some x) e = (x, refl)

same_bytes : (x y : Bytes) → not (bytes_eq x y) ≡ false → x ≡ y
same_bytes x y h = (bytes_eq-Decides x y).0 (go (bytes_eq x y) h)
  where
    go : (b : Bool) → not b ≡ false → b ≡ true
    go true h = refl
    go false h = absurd (let z : ⊥ = cc in z)

anchors_same : (T : Blocks) (V : Volume) (N : ℕ) → AreHere T V N (anchor_places N) → anchors_apart T N ≡ None
    → (a b : ℕ) → Contains (valid_anchors V N) a → Contains (valid_anchors V N) b → part (V a) 16 16 ≡ part (V b) 16 16
anchors_same T V N here apart a b i j = go (find (has_anchor T) (anchor_places N)) refl apart
  where
    ps : List ℕ
    ps = anchor_places N

    at : (n : ℕ) → Contains (valid_anchors V N) n → Includes ps n × (named_at T n ≡ Some (part (V n) 16 16))
    at n c = let w : Includes ps n × (is_valid (V n) n 2 ≡ true) = Includes-from_filter (λ x. is_valid (V x) x 2) ps n (included (valid_anchors V N) n c) in
        (w.0, named T V N n (here n w.0) w.1)

    as_first : (f : ℕ) (x : Bytes) → named_at T f ≡ Some x → find (anchors_differ T f) ps ≡ None → (n : ℕ) → Includes ps n × (named_at T n ≡ Some (part (V n) 16 16)) → x ≡ part (V n) 16 16
    as_first f x p none n w = same_bytes x (part (V n) 16 16) (sym (λ k. are_apart (p k) (w.1 k)) ∙ none_found (anchors_differ T f) ps none n w.0)

    go : (o : Option ℕ) → find (has_anchor T) ps ≡ o → apart_from T ps o ≡ None → part (V a) 16 16 ≡ part (V b) 16 16
    go None p q = let w : Includes ps a × (named_at T a ≡ Some (part (V a) 16 16)) = at a i in
        true_false (has_anchor T a) (ap (λ x. not (is_none x)) w.1) (none_found (has_anchor T) ps p a w.0)
    go (Some f) p q = let none : find (anchors_differ T f) ps ≡ None = map_none (λ m. (f, m)) (find (anchors_differ T f) ps) q in
        let x : (x : Bytes) × (named_at T f ≡ Some x) = not_none (named_at T f) (found_in (has_anchor T) ps f p).1 in
        sym (as_first f x.0 x.1 none a (at a i)) ∙ as_first f x.0 x.1 none b (at b j)

-- ---- the copies
alike_at : (P : Profile) (T : Blocks) (N : ℕ) (e : AnchorExtents) → anchor T N ≡ found e → are_extents_by P N e ≡ true → copies_differ P T N ≡ false
    → (i : ℕ) → i < count e → reaches T e i ≡ true → differ_at T e i ≡ false
alike_at P T N e a b c i l r = second (reaches T e i) (differ_at T e i) r (none_at (λ k. reaches T e k && differ_at T e k) 0 (count e) i all (omega arith) (omega (arith, l)))
  where
    second : (x y : Bool) → x ≡ true → (x && y) ≡ false → y ≡ false
    second true y e h = h
    second false y e h = absurd (let z : ⊥ = cc in z)

    all : differ_in T (shared e) ≡ false
    all = second (are_extents_by P N e) (differ_in T (shared e)) b (sym (ap (differ_by P T N) a) ∙ c)

found_same : {A : Type 0} (x y : A) → found x ≡ found y → x ≡ y
found_same x y e = cc

-- ---- the layout
pub record HasLayout (P : Profile) (T : Blocks) (V : Volume) (N : ℕ) : Type 0 where
  pub layout_is : Layout
  pub known : layout_by P T N ≡ found layout_is
  pub whole : layout_by P (complete V N) N ≡ found layout_is
  pub lawful : IsLawfulLayoutBy P V N

or_of_main : (P : Profile) (C : Blocks) (N : ℕ) (l : Layout) → main_layout_by P C N ≡ found l → layout_by P C N ≡ found l
unfolding layout_by
or_of_main P C N l m = or_found P (main_layout_by P C N) (reserve_layout_by P C N) l m

pub has_layout : (P : Profile) (T : Blocks) (V : Volume) (N : ℕ) → Agrees T V N → IsClear P T N → AreHere T V N (anchor_places N)
    → ((e : AnchorExtents) → anchor T N ≡ found e → AreHere T V N (pairs_in T e)) → HasLayout P T V N
has_layout P T V N agrees clear places pairs = go (main_layout_by P T N) refl
  where
    C : Blocks
    C = complete V N

    w : Anchored P T N
    w = anchored P T V N clear places

    e : AnchorExtents
    e = extents_of w.bytes

    all : AreHere T V N (pairs_in T e)
    all = pairs e w.is

    whole_anchor : anchor C N ≡ found e
    whole_anchor = sym (anchor_same T C N (λ n i. same_state T V N n (places n i))) ∙ w.is

    alike : (i : ℕ) → i < count e → reaches T e i ≡ true → differ_at T e i ≡ false
    alike = alike_at P T N e w.is w.taken clear.copies

    main : layout_by P T N ≡ main_layout_by P T N
    main = main_counts P T V N e w.is w.taken all alike

    some_valid : valid_anchors V N ≢ []
    some_valid empty = by (first_anchor_lem T V N agrees (anchor_places N))
      where
        by : FirstAnchor T V (anchor_places N) → ⊥
        by (one_known n i v k f) = subst (λ ys. Includes ys n) empty (Includes-filter (λ x. is_valid (V x) x 2) (anchor_places N) n i v)
        by (none_known f none) = let no : None ≡ Some w.bytes = sym f ∙ w.first in cc

    Says : AnchorExtents → Type 0
    Says x = (i : ℕ) → IsThroughEnd V N x i → SaysTheSame V (x.main.block + i) (x.reserve.block + i)

    says : Says e
    says i t = let l : i < count e = t.inside in let r : reaches T e i ≡ true = whole_reached T V N e all i l t.before in
        says_the_same T V N e i (pair_here T V N e all i l r) (alike i l r)

    go : (x : Answer Layout) → main_layout_by P T N ≡ x → HasLayout P T V N
    go (found l) q = let whole : layout_by P C N ≡ found l = or_of_main P C N l (main_same P T V N e w.is whole_anchor w.taken all ∙ q) in
        record {
          layout_is = l;
          known = main ∙ q;
          whole = whole;
          lawful = record {
            anchored = some_valid;
            anchors = anchors_same T V N places clear.anchors;
            copies = λ x i p t. subst Says (found_same e x (sym whole_anchor ∙ p)) says i t;
            laid_out = (l, whole);
          };
        }
    go (holes ns) q = absurd (main_no_holes P T V N e w.is w.taken all ns q)
    go (faulty f) q = absurd (clear.no_fault f (of_layout (main ∙ q)))
