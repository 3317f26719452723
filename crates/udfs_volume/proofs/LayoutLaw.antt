-- Over a lawful volume that agrees with the table, the main sequence gives what it gives of the volume, or a group is unread.
use Rattle.std.proofs.Common.{◌≡◌, refl, sym, ◌∙◌, ap, subst, inl, inr, ◌⊎◌, ℕ, ◌+◌, ◌/◌, ◌%◌, ◌<◌, ◌≤◌, Bool, true, false, not, List, [], ◌∷◌, map, cond, ◌&&◌, arith, Some, None, nat_eq, nat_le}
use Rattle.std.specs.Prelude.{zero, suc, Contains}
use Rattle.std.specs.List.{range_with_len}
use Rattle.std.proofs.lemmas.Bool.{leb-true, leb-false}
use Rattle.udfs_lattice.specs.States.{is_known}
use Rattle.udfs_volume.specs.declared.anchors.AnchorExtents.{AnchorExtents}
use Rattle.udfs_volume.specs.Sequence.{Bytes, extents_of, anchor, anchor_places, anchor_or, first_anchor, are_extents_by, fits_to, is_extent, shared, shorter, sequence_by, sequence_at, Position, unread, position, positions, goes_on, read_positions, ended_by}
use Rattle.udfs_lattice.specs.Volumes.{Blocks, ascending, not_known, Volume, IsVolume, Agrees, complete, IsKnownAt, IsUnread}
use Rattle.udfs_lattice.proofs.Inclusion.{Includes, included, contained}
use Rattle.udfs_tag.specs.Fields.{part, extent_ad_at}
use Rattle.udfs_tag.specs.Tags.{is_valid}
use Rattle.udfs_tag.specs.Faults.{is_within}
use Rattle.udfs_volume.specs.declared.profiles.Profile.{Profile}
use Rattle.udfs_volume.specs.declared.profiles.Profile.TheVariants.{Strict, Wide}
use Rattle.udfs_volume.specs.Answers.{found, holes, faulty, and_then}
use Rattle.udfs_volume.specs.declared.faults.VolumeFault.TheVariants.{Extents}
use Rattle.udfs_volume.specs.Layout.{Layout, layout_of, main_layout_by}
use Rattle.udfs_volume.specs.Laws.{IsLawfulLayoutBy, IsThroughEnd, IsPair, IsSequenceGroup, valid_anchors, IsAnswerOf, the_same}
use Rattle.udfs_lattice.proofs.PublicLaws.{ascending_contains, complete_agrees}
use Rattle.udfs_volume.proofs.Known.{complete-known, true_false, both, some_in, Includes-filter, Includes-from_filter, FirstAnchor, one_known, none_known, first_anchor_lem}
use Rattle.udfs_volume.proofs.Needed.{needed, goes_needed}
use Rattle.udfs_volume.proofs.NeededLayouts.{reads_needed, layout_by_needed}
use Rattle.udfs_volume.proofs.Positions.{PositionIs, same, neither, position_lem, before, read-on, read-stop}
use Rattle.udfs_volume.specs.Laws.IsAnswerOf.{unread as unread_answer}

-- Two rows of positions, p as known and q complete, from c on: at each place through the stop of q they are the same,
-- or p is unread there.
abbrev pub Through : (ℕ → Position) → ℕ → ℕ → ℕ → Type 0
Through q c n i = (c ≤ i) × (i < c + n) × ((j : ℕ) → c ≤ j → j < i → goes_on (q j) ≡ true)

abbrev pub Alike : (p q : ℕ → Position) (copies : ℕ → List ℕ) (K U : ℕ → Type 0) → ℕ → Type 0
Alike p q copies K U i = ((p i ≡ q i) × K i) ⊎ ((p i ≡ unread (copies i)) × U i)

pub data ReadsAlike (p q : ℕ → Position) (copies : ℕ → List ℕ) (K U : ℕ → Type 0) (c n : ℕ) : Type 0 where
  all_same : read_positions (map p (range_with_len c n)) ≡ read_positions (map q (range_with_len c n)) → ((i : ℕ) → Through q c n i → K i) → ReadsAlike p q copies K U c n
  one_unread : (i : ℕ) → Through q c n i → read_positions (map p (range_with_len c n)) ≡ holes (copies i) → U i → ReadsAlike p q copies K U c n

first_through : (q : ℕ → Position) (c n : ℕ) → Through q c (suc n) c
first_through q c n = (omega arith, omega arith, λ j l m. absurd (let no : ⊥ = omega arith in no))

later_through : (q : ℕ → Position) (c n i : ℕ) → goes_on (q c) ≡ true → Through q (c + 1) n i → Through q c (suc n) i
later_through q c n i g (l, h, all) = (omega arith, omega arith, λ j lj hj. go j hj (eq_or_lt c j lj))
  where
    eq_or_lt : (c j : ℕ) → c ≤ j → (c ≡ j) ⊎ (c + 1 ≤ j)
    eq_or_lt c j h = grind arith

    go : (j : ℕ) → j < i → (c ≡ j) ⊎ (c + 1 ≤ j) → goes_on (q j) ≡ true
    go j hj (inl e) = sym (ap (λ x. goes_on (q x)) e) ∙ g
    go j hj (inr m) = all j m hj

eq_or_later : (c j : ℕ) → c ≤ j → (c ≡ j) ⊎ (c < j)
eq_or_later c j h = grind arith

pub reads_alike : (p q : ℕ → Position) (copies : ℕ → List ℕ) (K U : ℕ → Type 0) (c n : ℕ)
    → ((i : ℕ) → Through q c n i → Alike p q copies K U i) → ReadsAlike p q copies K U c n
reads_alike p q copies K U c zero alike = all_same refl (λ i t. absurd (let l : c ≤ i = t.0 in let h : i < c + 0 = t.1 in let no : ⊥ = omega arith in no))
reads_alike p q copies K U c (suc n) alike = here (λ g. reads_alike p q copies K U (c + 1) n (λ i t. alike i (later_through q c n i g t))) (alike c (first_through q c n))
  where
    rest-p : List Position
    rest-p = map p (range_with_len (c + 1) n)

    rest-q : List Position
    rest-q = map q (range_with_len (c + 1) n)

    on : goes_on (q c) ≡ true → p c ≡ q c → K c → ReadsAlike p q copies K U (c + 1) n → ReadsAlike p q copies K U c (suc n)
    on g e k (all_same r all) = all_same
        (read-on (p c) rest-p (ap goes_on e ∙ g) ∙ (λ i. before (e i) (r i)) ∙ sym (read-on (q c) rest-q g))
        (λ i t. go i t (eq_or_later c i t.0))
      where
        go : (i : ℕ) → Through q c (suc n) i → (c ≡ i) ⊎ (c < i) → K i
        go i t (inl x) = subst K x k
        go i (l, h, below) (inr x) = all i (omega arith, omega arith, λ j lj hj. below j (omega arith) hj)
    on g e k (one_unread i t r u) = one_unread i (later_through q c n i g t)
        (read-on (p c) rest-p (ap goes_on e ∙ g) ∙ ap (before (p c)) r) u

    off : goes_on (q c) ≡ false → p c ≡ q c → K c → ReadsAlike p q copies K U c (suc n)
    off g e k = all_same
        (read-stop (p c) rest-p (ap goes_on e ∙ g) ∙ ap (λ x. ended_by (Some x) []) e ∙ sym (read-stop (q c) rest-q g))
        (λ i t. go i t (eq_or_later c i t.0))
      where
        go : (i : ℕ) → Through q c (suc n) i → (c ≡ i) ⊎ (c < i) → K i
        go i t (inl x) = subst K x k
        go i t (inr x) = true_false (goes_on (q c)) (t.2 c (omega arith) x) g

    by_goes : (goes_on (q c) ≡ true → ReadsAlike p q copies K U (c + 1) n) → p c ≡ q c → K c → (b : Bool) → goes_on (q c) ≡ b → ReadsAlike p q copies K U c (suc n)
    by_goes later e k true g = on g e k (later g)
    by_goes later e k false g = off g e k

    here : (goes_on (q c) ≡ true → ReadsAlike p q copies K U (c + 1) n) → Alike p q copies K U c → ReadsAlike p q copies K U c (suc n)
    here later (inl (e, k)) = by_goes later e k (goes_on (q c)) refl
    here later (inr (e, u)) = one_unread c (first_through q c n)
        (read-stop (p c) rest-p (ap goes_on e) ∙ ap (λ x. ended_by (Some x) []) e) u

pub place_fits : (N n : ℕ) → 513 ≤ N → Includes (anchor_places N) n → n ≤ N
place_fits N n h (inl p) = subst (λ x. x ≤ N) p (omega arith)
place_fits N n h (inr (inl p)) = subst (λ x. x ≤ N) p (omega arith)
place_fits N n h (inr (inr (inl p))) = subst (λ x. x ≤ N) p (omega arith)
place_fits N n h (inr (inr (inr e))) = absurd e

not-true : (b : Bool) → not b ≡ true → b ≡ false
not-true true h = absurd (let no : ⊥ = cc in no)
not-true false h = refl

anchor_or-none : (xs : List ℕ) (n : ℕ) → Includes xs n → anchor_or None xs ≡ holes xs
anchor_or-none [] n h = absurd h
anchor_or-none (x ∷ xs) n h = refl

extents_from : Bytes → AnchorExtents
extents_from bytes = record { main = extent_ad_at bytes 0; reserve = extent_ad_at bytes 8 }

same_extents : (a b : Bytes) → part a 16 16 ≡ part b 16 16 → extents_of a ≡ extents_of b
unfolding extents_from
same_extents a b p = ap extents_from p

valid_is : (V : Volume) (N n : ℕ) → Includes (valid_anchors V N) n → Includes (anchor_places N) n × (is_valid (V n) n 2 ≡ true)
valid_is V N n h = Includes-from_filter (λ x. is_valid (V x) x 2) (anchor_places N) n h

is_valid_one : (V : Volume) (N n : ℕ) → Includes (anchor_places N) n → is_valid (V n) n 2 ≡ true → Includes (valid_anchors V N) n
is_valid_one V N n h v = Includes-filter (λ x. is_valid (V x) x 2) (anchor_places N) n h v

-- the anchor of the complete table
pub complete_anchor : (profile : Profile) (V : Volume) (N : ℕ) → 513 ≤ N → IsLawfulLayoutBy profile V N
    → (n : ℕ) × Includes (valid_anchors V N) n × (anchor (complete V N) N ≡ found (extents_of (V n)))
unfolding anchor
complete_anchor profile V N h lw = go (first_anchor_lem (complete V N) V N (complete_agrees V N) (anchor_places N)) (some_in (valid_anchors V N) lw.anchored)
  where
    go : FirstAnchor (complete V N) V (anchor_places N) → (n : ℕ) × Includes (valid_anchors V N) n
        → (n : ℕ) × Includes (valid_anchors V N) n × (anchor (complete V N) N ≡ found (extents_of (V n)))
    go (one_known n i v k f) some = (n, is_valid_one V N n i v, ap (λ o. anchor_or o (not_known (complete V N) (anchor_places N))) f)
    go (none_known f all) (n, i) = let w : Includes (anchor_places N) n × (is_valid (V n) n 2 ≡ true) = valid_is V N n i in
        true_false (is_known (complete V N n)) (ap is_known (complete-known V N n (place_fits N n h w.0))) (all n w.0 w.1)

-- where no valid anchor is known, the places that are not known are listed
no_anchor : (profile : Profile) (M : Blocks) (V : Volume) (N : ℕ) → IsLawfulLayoutBy profile V N → first_anchor M (anchor_places N) ≡ None
    → ((n : ℕ) → Includes (anchor_places N) n → is_valid (V n) n 2 ≡ true → is_known (M n) ≡ false)
    → IsAnswerOf M (valid_anchors V N) (anchor_places N) (IsSequenceGroup V N) (main_layout_by profile M N) (main_layout_by profile (complete V N) N)
unfolding main_layout_by sequence_by anchor
no_anchor profile M V N lw f all = unread_answer (not_known M (anchor_places N))
    (ap (λ x. and_then (and_then x (sequence_at profile M N)) (layout_of profile N)) (ap (λ o. anchor_or o (not_known M (anchor_places N))) f ∙ anchor_or-none (not_known M (anchor_places N)) one.0 (in_listed one.0 one.1)))
    (record {
      group = valid_anchors V N;
      is_group = inl refl;
      unread = unread_valid;
      holds = λ n c. contained (not_known M (anchor_places N)) n (in_listed n (included (valid_anchors V N) n c));
      not_known = λ n c. not-true (is_known (M n)) (from_listed n (included (not_known M (anchor_places N)) n c)).1;
      each = λ n c. inr (contained (anchor_places N) n (from_listed n (included (not_known M (anchor_places N)) n c)).0, unread_valid);
    })
  where
    unread_valid : IsUnread M (valid_anchors V N)
    unread_valid n c = let w : Includes (anchor_places N) n × (is_valid (V n) n 2 ≡ true) = valid_is V N n (included (valid_anchors V N) n c) in all n w.0 w.1

    one : (n : ℕ) × Includes (valid_anchors V N) n
    one = some_in (valid_anchors V N) lw.anchored

    in_listed : (n : ℕ) → Includes (valid_anchors V N) n → Includes (not_known M (anchor_places N)) n
    in_listed n i = Includes-filter (λ x. not (is_known (M x))) (anchor_places N) n (valid_is V N n i).0 (ap not (unread_valid n (contained (valid_anchors V N) n i)))

    from_listed : (n : ℕ) → Includes (not_known M (anchor_places N)) n → Includes (anchor_places N) n × (not (is_known (M n)) ≡ true)
    from_listed n i = Includes-from_filter (λ x. not (is_known (M x))) (anchor_places N) n i

found_same : {A : Type 0} (x y : A) → found x ≡ found y → x ≡ y
found_same x y e = cc

-- the extents of a volume that has a layout keep the rules
pub are_extents_of : (profile : Profile) (V : Volume) (N : ℕ) (e : AnchorExtents) (l : Layout) → anchor (complete V N) N ≡ found e
    → main_layout_by profile (complete V N) N ≡ found l → are_extents_by profile N e ≡ true
unfolding main_layout_by sequence_by
are_extents_of profile V N e l q h = go (are_extents_by profile N e) refl
  where
    go : (b : Bool) → are_extents_by profile N e ≡ b → are_extents_by profile N e ≡ true
    go true b = b
    go false b = absurd (
        let chain : faulty Extents ≡ found l = sym (ap (λ x. and_then (and_then x (sequence_at profile (complete V N) N)) (layout_of profile N)) q
        ∙ ap (λ c. and_then (cond c (read_positions (positions (complete V N) (shared e))) (faulty Extents)) (layout_of profile N)) b) ∙ h in
        let no : ⊥ = cc in no)

-- the shorter extent is no longer than the main one
shorter_blocks : (e : AnchorExtents) → shorter e / 2048 ≤ e.main.length / 2048
shorter_blocks e = go (nat_le e.main.length e.reserve.length) refl
  where
    go : (b : Bool) → nat_le e.main.length e.reserve.length ≡ b → cond b e.main.length e.reserve.length / 2048 ≤ e.main.length / 2048
    go true q = omega arith
    go false q = let l : e.reserve.length < e.main.length = leb-false e.main.length e.reserve.length q in omega (arith, l)

pub main_fits : (profile : Profile) (N : ℕ) (e : AnchorExtents) → are_extents_by profile N e ≡ true → e.main.block + shorter e / 2048 ≤ N + 1
main_fits Strict N e h = let s : shorter e / 2048 ≤ e.main.length / 2048 = shorter_blocks e in
    let m : e.main.block + e.main.length / 2048 ≤ N + 1 = leb-true (e.main.block + e.main.length / 2048) (N + 1) (both (nat_eq e.main.length e.reserve.length && nat_eq (e.main.length % 2048) 0
    && is_within 32768 524288 e.main.length) (fits_to N e.main) (both (nat_eq e.main.length e.reserve.length && nat_eq (e.main.length % 2048) 0
    && is_within 32768 524288 e.main.length && fits_to N e.main) (fits_to N e.reserve) h).0).1 in omega (arith, s, m)
main_fits Wide N e h = let s : shorter e / 2048 ≤ e.main.length / 2048 = shorter_blocks e in
    let m : e.main.block + e.main.length / 2048 ≤ N + 1 = leb-true (e.main.block + e.main.length / 2048) (N + 1)
    (both (nat_eq (e.main.length % 2048) 0 && is_within 2048 524288 e.main.length) (fits_to N e.main) (both (is_extent N e.main) (is_extent N e.reserve) h).0).1 in omega (arith, s, m)

-- with the anchor's extents, the layout is what the positions give
pub layout_at : (profile : Profile) (T : Blocks) (N : ℕ) (e : AnchorExtents) → anchor T N ≡ found e → are_extents_by profile N e ≡ true
    → main_layout_by profile T N ≡ and_then (read_positions (positions T (shared e))) (layout_of profile N)
unfolding main_layout_by sequence_by
layout_at profile T N e q b = ap (λ x. and_then (and_then x (sequence_at profile T N)) (layout_of profile N)) q
    ∙ ap (λ c. and_then (cond c (read_positions (positions T (shared e))) (faulty Extents)) (layout_of profile N)) b

abbrev pair : AnchorExtents → ℕ → List ℕ
pair e i = (e.main.block + i) ∷ (e.reserve.block + i) ∷ []

abbrev IsHere : Blocks → List ℕ → Type 0
IsHere M group = (n : ℕ) × Contains group n × IsKnownAt M n

abbrev AreUnread : Blocks → AnchorExtents → ℕ → Type 0
AreUnread M e i = (is_known (M (e.main.block + i)) ≡ false) × (is_known (M (e.reserve.block + i)) ≡ false)

unread_pair : (M : Blocks) (e : AnchorExtents) (i : ℕ) → AreUnread M e i → IsUnread M (pair e i)
unread_pair M e i u n c = go (included (pair e i) n c)
  where
    go : Includes (pair e i) n → is_known (M n) ≡ false
    go (inl p) = subst (λ x. is_known (M x) ≡ false) p u.0
    go (inr (inl p)) = subst (λ x. is_known (M x) ≡ false) p u.1
    go (inr (inr x)) = absurd x

abbrev pub row : Blocks → AnchorExtents → ℕ → Position
row T e i = position T (e.main.block + i) (e.reserve.block + i)

abbrev pub count : AnchorExtents → ℕ
count e = shorter e / 2048

-- what the layout needs of each position
abbrev pub needs : Blocks → AnchorExtents → ℕ → Position
needs T e i = needed (row T e i)

pub through_end : (V : Volume) (N : ℕ) (e : AnchorExtents) (i : ℕ) → Through (needs (complete V N) e) 0 (count e) i → IsThroughEnd V N e i
through_end V N e i (l, h, all) = record { inside = omega arith; before = λ j x. sym (goes_needed (row (complete V N) e j)) ∙ all j (omega arith) x }

from_through_end : (V : Volume) (N : ℕ) (e : AnchorExtents) (i : ℕ) → IsThroughEnd V N e i → Through (needs (complete V N) e) 0 (count e) i
from_through_end V N e i t = (omega arith, (let h : i < shorter e / 2048 = t.inside in omega arith), λ j l x. goes_needed (row (complete V N) e j) ∙ t.before j x)

-- with the anchor's extents, the layout is what the positions give, by what it needs of them
pub needed_at : (profile : Profile) (T : Blocks) (N : ℕ) (e : AnchorExtents) → anchor T N ≡ found e → are_extents_by profile N e ≡ true
    → main_layout_by profile T N ≡ and_then (read_positions (map (needs T e) (range_with_len 0 (count e)))) (layout_of profile N)
needed_at profile T N e q b = layout_at profile T N e q b ∙ sym (layout_by_needed profile N (read_positions (positions T (shared e))))
    ∙ sym (ap (λ x. and_then x (layout_of profile N)) (reads_needed (row T e) (range_with_len 0 (count e))))

-- the rows of positions of a table that has the volume's extents, beside the complete ones
rows_alike : (profile : Profile) (M : Blocks) (V : Volume) (N : ℕ) → Agrees M V N → IsLawfulLayoutBy profile V N → (e : AnchorExtents)
    → anchor (complete V N) N ≡ found e → are_extents_by profile N e ≡ true
    → ReadsAlike (needs M e) (needs (complete V N) e) (λ i. ascending (pair e i)) (λ i. IsHere M (pair e i)) (AreUnread M e) 0 (count e)
rows_alike profile M V N a lw e q b = reads_alike (needs M e) (needs (complete V N) e) (λ i. ascending (pair e i)) (λ i. IsHere M (pair e i)) (AreUnread M e) 0 (count e) each
  where
    fits : (i : ℕ) → i < 0 + count e → e.main.block + i ≤ N
    fits i h = let m : e.main.block + shorter e / 2048 ≤ N + 1 = main_fits profile N e b in omega arith

    tell : (i : ℕ) → PositionIs M V N (e.main.block + i) (e.reserve.block + i)
        → Alike (needs M e) (needs (complete V N) e) (λ i. ascending (pair e i)) (λ i. IsHere M (pair e i)) (AreUnread M e) i
    tell i (same p n h k) = inl (p, (n, contained (pair e i) n h, (V n, k)))
    tell i (neither p u v) = inr (ap needed p, (u, v))

    each : (i : ℕ) → Through (needs (complete V N) e) 0 (count e) i
        → Alike (needs M e) (needs (complete V N) e) (λ i. ascending (pair e i)) (λ i. IsHere M (pair e i)) (AreUnread M e) i
    each i t = tell i (position_lem M V N a (e.main.block + i) (e.reserve.block + i) (fits i t.1) (lw.copies e i q (through_end V N e i t)))

answer_with : (profile : Profile) (M : Blocks) (V : Volume) (N : ℕ) → IsLawfulLayoutBy profile V N → (e : AnchorExtents)
    → anchor (complete V N) N ≡ found e → anchor M N ≡ found e → are_extents_by profile N e ≡ true
    → IsHere M (valid_anchors V N)
    → ReadsAlike (needs M e) (needs (complete V N) e) (λ i. ascending (pair e i)) (λ i. IsHere M (pair e i)) (AreUnread M e) 0 (count e)
    → IsAnswerOf M (valid_anchors V N) (anchor_places N) (IsSequenceGroup V N) (main_layout_by profile M N) (main_layout_by profile (complete V N) N)
answer_with profile M V N lw e q r b here (all_same eq all) = the_same
    (needed_at profile M N e r b ∙ ap (λ x. and_then x (layout_of profile N)) eq ∙ sym (needed_at profile (complete V N) N e q b)) groups
  where
    at_pair : (x : AnchorExtents) → e ≡ x → (i : ℕ) → IsThroughEnd V N x i → IsHere M (pair x i)
    at_pair x p = let Q : AnchorExtents → Type 0 = λ x. (i : ℕ) → IsThroughEnd V N x i → IsHere M (pair x i) in
        subst Q p (λ i t. all i (from_through_end V N e i t))

    groups : (g : List ℕ) → IsSequenceGroup V N g → IsHere M g
    groups g (inl p) = subst (IsHere M) (sym p) here
    groups g (inr p) = subst (IsHere M) (sym p.is) (at_pair p.extents (found_same e p.extents (sym q ∙ p.from)) p.place p.through)
answer_with profile M V N lw e q r b here (one_unread i t eq u) = unread_answer (ascending (pair e i))
    (needed_at profile M N e r b ∙ ap (λ x. and_then x (layout_of profile N)) eq)
    (record {
      group = pair e i;
      is_group = inr a_pair;
      unread = unread_pair M e i u;
      holds = λ n h. (ascending_contains (pair e i) n).1 h;
      not_known = λ n h. unread_pair M e i u n ((ascending_contains (pair e i) n).0 h);
      each = λ n h. inl (pair e i, inr a_pair, unread_pair M e i u, (ascending_contains (pair e i) n).0 h);
    })
  where
    a_pair : IsPair V N (pair e i)
    a_pair = record { extents = e; place = i; from = q; through = through_end V N e i t; is = refl }

found_anchor : (M : Blocks) (V : Volume) (N n m : ℕ) → first_anchor M (anchor_places N) ≡ Some (V m) → part (V m) 16 16 ≡ part (V n) 16 16
    → anchor M N ≡ found (extents_of (V n))
unfolding anchor
found_anchor M V N n m f p = ap (λ o. anchor_or o (not_known M (anchor_places N))) f ∙ ap found (same_extents (V m) (V n) p)

none_of : (e : AnchorExtents) (ns : List ℕ) → anchor_or None ns ≡ found e → ⊥
none_of e [] x = cc
none_of e (k ∷ ks) x = cc

-- an anchor that is found by a table that agrees is the volume's
pub anchor_of_lawful : (profile : Profile) (M : Blocks) (V : Volume) (N : ℕ) → 513 ≤ N → IsLawfulLayoutBy profile V N → Agrees M V N
    → (e : AnchorExtents) → anchor M N ≡ found e → anchor (complete V N) N ≡ found e
unfolding anchor
anchor_of_lawful profile M V N h lw a e p = go (complete_anchor profile V N h lw) (first_anchor_lem M V N a (anchor_places N))
  where
    go : (n : ℕ) × Includes (valid_anchors V N) n × (anchor (complete V N) N ≡ found (extents_of (V n))) → FirstAnchor M V (anchor_places N) → anchor (complete V N) N ≡ found e
    go (n, i, q) (one_known m im vm km fm) = q ∙ sym (found_anchor M V N n m fm (lw.anchors m n (contained (valid_anchors V N) m (is_valid_one V N m im vm)) (contained (valid_anchors V N) n i))) ∙ p
    go (n, i, q) (none_known f all) = absurd (none_of e (not_known M (anchor_places N)) (sym (ap (λ o. anchor_or o (not_known M (anchor_places N))) f) ∙ p))

pub main_law : (profile : Profile) (M : Blocks) (V : Volume) (N : ℕ) → IsVolume V N → IsLawfulLayoutBy profile V N → Agrees M V N
    → (l : Layout) → main_layout_by profile (complete V N) N ≡ found l
    → IsAnswerOf M (valid_anchors V N) (anchor_places N) (IsSequenceGroup V N) (main_layout_by profile M N) (main_layout_by profile (complete V N) N)
main_law profile M V N hv lw a l laid = by_complete (complete_anchor profile V N hv.from lw) (first_anchor_lem M V N a (anchor_places N))
  where
    by_complete : (n : ℕ) × Includes (valid_anchors V N) n × (anchor (complete V N) N ≡ found (extents_of (V n))) → FirstAnchor M V (anchor_places N)
        → IsAnswerOf M (valid_anchors V N) (anchor_places N) (IsSequenceGroup V N) (main_layout_by profile M N) (main_layout_by profile (complete V N) N)
    by_complete (n, i, q) (one_known m im vm km fm) = let b : are_extents_by profile N (extents_of (V n)) ≡ true = are_extents_of profile V N (extents_of (V n)) l q laid in
        let va : Includes (valid_anchors V N) m = is_valid_one V N m im vm in
        answer_with profile M V N lw (extents_of (V n)) q (found_anchor M V N n m fm (lw.anchors m n (contained (valid_anchors V N) m va) (contained (valid_anchors V N) n i))) b (m, contained (valid_anchors V N) m va, (V m, km))
        (rows_alike profile M V N a lw (extents_of (V n)) q b)
    by_complete (n, i, q) (none_known f all) = no_anchor profile M V N lw f all
