-- The walk over the descriptors of an entry, from the middle of an area on.
--     chain_from t v form r left ds     all descriptors from here on: those that this area has left, and what follows
--     rest_from ..                    the body from cell c on, where descriptor i is the next one of the area
-- What the rest gives, put behind what was taken, is the whole: each lemma is one way to go on.
use Rattle.std.proofs.Common.{◌≡◌, ◌≢◌, refl, sym, ◌∙◌, ap, inl, inr, ◌⊎◌, ℕ, ◌+◌, ◌-◌, ◌%◌, ◌<◌, ◌≤◌, min, Bool, true, false, not, cond, ◌&&◌, List, [], ◌∷◌, ◌++◌, length, take, map, arith, Option, Some, None, slice_get, nat_lt, nat_le, replicate, add-zero, append_assoc, append-nil, length-append}
use Rattle.std.proofs.lemmas.List.Concat.{flat_map-append}
use Rattle.std.specs.Prelude.{take_while, zero, suc, flat_map, ◌==◌}
use Rattle.std.specs.List.{range_with_len}
use Rattle.std.proofs.lemmas.List.Sums.{take_while-cons}
use Rattle.udfs_tag.specs.declared.layouts.LongAd.{LongAd}
use Rattle.udfs_space.specs.Places.{View, is_past}
use Rattle.udfs_file.specs.Bodies.{Next, no_more, area_at, unread_at, broken, Descriptors, no_descriptors, joined, chain, up_to_next, next_descriptor, next_of, next_by, descriptor_at, descriptor_count, descriptors_in, listed_body, covers, cells_in, extent_fault, extent_cells, Body, cells, faulty_body, ended_body, body_unless, is_odd, is_misreferred, is_misplaced, recorded_cell}
use Rattle.udfs_volume.specs.Layout.{blocks_in}
use Rattle.udfs_file.specs.declared.cells.Cell.{Cell}
use Rattle.udfs_file.specs.declared.cells.Cell.TheVariants.{Byte}
use Rattle.udfs_file.specs.Stretches.{stretch_cells, stretch_count, cells_of, IsExtent}
use Rattle.udfs_file.specs.declared.stretches.Stretch.{Stretch}
use Rattle.udfs_file.specs.declared.stretches.Stretch.TheVariants.{Missing}
use Rattle.udfs_file.specs.declared.faults.NodeFault.{NodeFault}
use Rattle.udfs_file.specs.declared.faults.NodeFault.TheVariants.{Short, Reference, Range, Odd}
use Rattle.udfs_file.proofs.CellLemmas.{length-stretch}
use Rattle.udfs_file.proofs.BodyFrom.{from, onto, body-from, le_or_lt, not_le, not_lt, is_le, is_lt}
use Rattle.udfs_file.proofs.ExtentLemmas.{is_not, is_same, none_of_three}

-- ---- the descriptors from the middle of an area on
abbrev pub later : Bool → View → ℕ → ℕ → ℕ → List ℕ → Descriptors
later t v form r zero area = no_descriptors
later t v form r (suc left) area = chain t v form r left area

abbrev pub chain_from : Bool → View → ℕ → ℕ → ℕ → List LongAd → Descriptors
chain_from t v form r left ds = joined (up_to_next ds) (next_of v form (left == 0) (next_descriptor ds)) (later t v form r left)

pub chain-from : (t : Bool) (v : View) (form r left : ℕ) (area : List ℕ) → chain t v form r left area ≡ chain_from t v form r left (descriptors_in t form r area)
chain-from t v form r zero area = refl
chain-from t v form r (suc left) area = let ds = descriptors_in t form r area in
    ap (λ b. joined (up_to_next ds) (next_of v form b (next_descriptor ds)) (chain t v form r left)) (sym (is_not (suc left) 0 (λ e. absurd (omega arith))))

one_more : (n : ℕ) → suc n + 1 ≡ suc (n + 1)
one_more n = omega arith

abbrev with_first : LongAd → Descriptors → Descriptors
with_first d ds = record { all = d ∷ ds.all; behind = ds.behind }

joined-cons : (d : LongAd) (ds : List LongAd) (next : Next) (more : List ℕ → Descriptors) → joined (d ∷ ds) next more ≡ with_first d (joined ds next more)
joined-cons d ds no_more more = refl
joined-cons d ds (area_at area) more = refl
joined-cons d ds (unread_at n) more = refl
joined-cons d ds (broken f) more = refl

-- a descriptor of type 0, 1 or 2 is the next one
pub chain_from-cons : (t : Bool) (v : View) (form r left : ℕ) (d : LongAd) (ds : List LongAd) → d.kind ≢ 3
    → chain_from t v form r left (d ∷ ds) ≡ with_first d (chain_from t v form r left ds)
chain_from-cons t v form r left d ds h =
    ap (λ (u : List LongAd). joined (take (length u + 1) (d ∷ ds)) (next_of v form (left == 0) (slice_get (d ∷ ds) (length u))) (later t v form r left))
    (take_while-cons (λ d. not (d.kind == 3)) d ds ∙ ap (λ b. cond (not b) (d ∷ take_while (λ d. not (d.kind == 3)) ds) []) (is_not d.kind 3 h))
    ∙ ap (λ (m : ℕ). joined (take m (d ∷ ds)) (next_of v form (left == 0) (next_descriptor ds)) (later t v form r left)) (one_more (length (take_while (λ d. not (d.kind == 3)) ds)))
    ∙ joined-cons d (up_to_next ds) (next_of v form (left == 0) (next_descriptor ds)) (later t v form r left)

-- one of type 3 is the last of its area
pub chain_from-next : (t : Bool) (v : View) (form r left : ℕ) (d : LongAd) (ds : List LongAd) → d.kind ≡ 3
    → chain_from t v form r left (d ∷ ds) ≡ joined (d ∷ []) (next_by v form (left == 0) d) (later t v form r left)
chain_from-next t v form r left d ds h =
    ap (λ (u : List LongAd). joined (take (length u + 1) (d ∷ ds)) (next_of v form (left == 0) (slice_get (d ∷ ds) (length u))) (later t v form r left))
    (take_while-cons (λ d. not (d.kind == 3)) d ds ∙ ap (λ b. cond (not b) (d ∷ take_while (λ d. not (d.kind == 3)) ds) []) (is_same d.kind 3 h))

-- ---- the body from cell c on
abbrev pub body_of : View → ℕ → ℕ → Descriptors → Body
body_of v size c ds = from v size ds.behind c ds.all

pub from-done : (v : View) (size : ℕ) (behind : Next) (c : ℕ) (ds : List LongAd) → size ≤ c → from v size behind c ds ≡ cells []
from-done v size behind c [] h = ap (λ b. cond b (cells []) (ended_body (size - c) behind [])) (is_le size c h)
from-done v size behind c (d ∷ ds) h = ap (λ b. cond b (cells []) (cond (nat_lt 0 d.length)
    (body_unless (extent_fault v size (c, d)) (onto (extent_cells v size (c, d)) (from v size behind (c + covers d) ds))) (faulty_body Short))) (is_le size c h)

pub from-end : (v : View) (size : ℕ) (behind : Next) (c : ℕ) → c < size → from v size behind c [] ≡ ended_body (size - c) behind []
from-end v size behind c h = ap (λ b. cond b (cells []) (ended_body (size - c) behind [])) (not_le size c h)

-- a descriptor at which cells are left
from-cons : (v : View) (size : ℕ) (behind : Next) (c : ℕ) (d : LongAd) (ds : List LongAd) → c < size
    → from v size behind c (d ∷ ds) ≡ cond (nat_lt 0 d.length)
    (body_unless (extent_fault v size (c, d)) (onto (extent_cells v size (c, d)) (from v size behind (c + covers d) ds))) (faulty_body Short)
from-cons v size behind c d ds h = ap (λ b. cond b (cells []) (cond (nat_lt 0 d.length)
    (body_unless (extent_fault v size (c, d)) (onto (extent_cells v size (c, d)) (from v size behind (c + covers d) ds))) (faulty_body Short))) (not_le size c h)

pub from-zero : (v : View) (size : ℕ) (behind : Next) (c : ℕ) (d : LongAd) (ds : List LongAd) → c < size → d.length ≡ 0
    → from v size behind c (d ∷ ds) ≡ faulty_body Short
from-zero v size behind c d ds h e = from-cons v size behind c d ds h
    ∙ ap (λ b. cond b (body_unless (extent_fault v size (c, d)) (onto (extent_cells v size (c, d)) (from v size behind (c + covers d) ds))) (faulty_body Short))
    (not_lt 0 d.length (omega arith))

from-taken : (v : View) (size : ℕ) (behind : Next) (c : ℕ) (d : LongAd) (ds : List LongAd) → c < size → d.length ≢ 0
    → from v size behind c (d ∷ ds) ≡ body_unless (extent_fault v size (c, d)) (onto (extent_cells v size (c, d)) (from v size behind (c + covers d) ds))
from-taken v size behind c d ds h e = from-cons v size behind c d ds h
    ∙ ap (λ b. cond b (body_unless (extent_fault v size (c, d)) (onto (extent_cells v size (c, d)) (from v size behind (c + covers d) ds))) (faulty_body Short))
    (is_lt 0 d.length (omega arith))

pub from-fault : (v : View) (size : ℕ) (behind : Next) (c : ℕ) (d : LongAd) (ds : List LongAd) (f : NodeFault) → c < size → d.length ≢ 0
    → extent_fault v size (c, d) ≡ Some f → from v size behind c (d ∷ ds) ≡ faulty_body f
from-fault v size behind c d ds f h e x = from-taken v size behind c d ds h e
    ∙ ap (λ (o : Option NodeFault). body_unless o (onto (extent_cells v size (c, d)) (from v size behind (c + covers d) ds))) x

-- past the end of the body it makes no difference how far a descriptor goes
clip : (v : View) (size : ℕ) (behind : Next) (c n : ℕ) (ds : List LongAd) → (n ≤ size - c) ⊎ (size - c < n)
    → from v size behind (c + n) ds ≡ from v size behind (c + min n (size - c)) ds
clip v size behind c n ds (inl h) = let e : n ≡ min n (size - c) = omega arith in ap (λ m. from v size behind (c + m) ds) e
clip v size behind c n ds (inr h) = from-done v size behind (c + n) ds (omega arith) ∙ sym (from-done v size behind (c + min n (size - c)) ds (omega arith))

pub from-extent : (v : View) (size : ℕ) (behind : Next) (c : ℕ) (d : LongAd) (ds : List LongAd) (s : Stretch) → c < size → d.length ≢ 0
    → IsExtent v size c d s → from v size behind c (d ∷ ds) ≡ onto (stretch_cells v s) (from v size behind (c + stretch_count s) ds)
from-extent v size behind c d ds s h e x = from-taken v size behind c d ds h e
    ∙ ap (λ (o : Option NodeFault). body_unless o (onto (extent_cells v size (c, d)) (from v size behind (c + covers d) ds))) x.no_fault
    ∙ ap (λ (cs : List Cell). onto cs (from v size behind (c + covers d) ds)) (sym x.cells)
    ∙ ap (onto (stretch_cells v s)) (clip v size behind c (covers d) ds (le_or_lt (covers d) (size - c)))
    ∙ ap (λ n. onto (stretch_cells v s) (from v size behind (c + n) ds)) (sym x.count)

onto-nothing : (b : Body) → onto [] b ≡ b
onto-nothing (cells cs) = refl
onto-nothing (faulty_body f) = refl

-- a continuation takes no cell
from-next : (v : View) (size : ℕ) (behind : Next) (c : ℕ) (d : LongAd) (ds : List LongAd) → c < size → d.length ≢ 0 → d.kind ≡ 3
    → from v size behind c (d ∷ ds) ≡ from v size behind c ds
from-next v size behind c d ds h e k = from-taken v size behind c d ds h e
    ∙ ap (λ (o : Option NodeFault). body_unless o (onto (extent_cells v size (c, d)) (from v size behind (c + covers d) ds))) no_fault
    ∙ ap (λ (cs : List Cell). onto cs (from v size behind (c + covers d) ds)) no_cells
    ∙ onto-nothing (from v size behind (c + covers d) ds)
    ∙ ap (λ n. from v size behind n ds) (ap (λ n. c + n) nothing ∙ add-zero c)
  where
    nothing : covers d ≡ 0
    nothing = ap (λ b. cond b 0 d.length) (is_same d.kind 3 k)

    none : cells_in size (c, d) ≡ 0
    none = ap (λ n. min n (size - c)) nothing ∙ omega arith

    not_recorded : (d.kind == 0) ≡ false
    not_recorded = is_not d.kind 0 (λ z. absurd (let x : 0 ≡ 3 = sym z ∙ k in omega arith))

    no_fault : extent_fault v size (c, d) ≡ None
    no_fault = none_of_three (is_misreferred v d) (is_misplaced v d (cells_in size (c, d))) (is_odd size c d) Reference Range Odd
        (ap (λ b. b && nat_le v.partitions d.reference) not_recorded)
        (ap (λ b. b && is_past v.place d.reference d.block (blocks_in (cells_in size (c, d)))) not_recorded)
        (ap (λ b. not b && nat_lt (c + d.length) size && not (d.length % 2048 == 0)) (is_same d.kind 3 k))

    no_cells : extent_cells v size (c, d) ≡ []
    no_cells = ap (λ b. cond b (map (recorded_cell v d.reference d.block) (range_with_len 0 (cells_in size (c, d)))) (replicate (cells_in size (c, d)) (Byte 0 None))) not_recorded
        ∙ ap (λ n. replicate n (Byte 0 None)) none

-- ---- where descriptor i of an area is the next one
abbrev pub left_in : Bool → ℕ → ℕ → List ℕ → ℕ → List LongAd
left_in t form r area i = map (descriptor_at t form r area) (range_with_len i (descriptor_count form area - i))

abbrev pub rest_from : Bool → View → ℕ → ℕ → ℕ → ℕ → ℕ → List ℕ → ℕ → Body
rest_from t v size form r left c area i = body_of v size c (chain_from t v form r left (left_in t form r area i))

numbers_first : {A : Type 0} (f : ℕ → A) (i n : ℕ) → i < n → map f (range_with_len i (n - i)) ≡ f i ∷ map f (range_with_len (i + 1) (n - (i + 1)))
numbers_first f i n h = let e : n - i ≡ suc (n - (i + 1)) = omega arith in ap (λ m. map f (range_with_len i m)) e

numbers_none : {A : Type 0} (f : ℕ → A) (i n : ℕ) → n ≤ i → map f (range_with_len i (n - i)) ≡ []
numbers_none f i n h = let e : n - i ≡ 0 = omega arith in ap (λ m. map f (range_with_len i m)) e

left_first : (t : Bool) (form r : ℕ) (area : List ℕ) (i : ℕ) (d : LongAd) → i < descriptor_count form area → d ≡ descriptor_at t form r area i
    → left_in t form r area i ≡ d ∷ left_in t form r area (i + 1)
left_first t form r area i d h e = numbers_first (descriptor_at t form r area) i (descriptor_count form area) h ∙ ap (λ x. x ∷ left_in t form r area (i + 1)) (sym e)

-- the first of an area
rest-start : (t : Bool) (v : View) (size form r left c : ℕ) (area : List ℕ) → body_of v size c (chain t v form r left area) ≡ rest_from t v size form r left c area 0
rest-start t v size form r left c area = ap (body_of v size c) (chain-from t v form r left area)
    ∙ ap (λ n. body_of v size c (chain_from t v form r left (map (descriptor_at t form r area) (range_with_len 0 n)))) (let e : descriptor_count form area ≡ descriptor_count form area - 0 = omega arith in e)

rest-end : (t : Bool) (v : View) (size form r left c : ℕ) (area : List ℕ) (i : ℕ) → c < size → descriptor_count form area ≤ i
    → rest_from t v size form r left c area i ≡ faulty_body Short
rest-end t v size form r left c area i h k =
    ap (λ ds. body_of v size c (chain_from t v form r left ds)) (numbers_none (descriptor_at t form r area) i (descriptor_count form area) k)
    ∙ from-end v size no_more c h

-- an extent is next
rest-cons : (t : Bool) (v : View) (size form r left c : ℕ) (area : List ℕ) (i : ℕ) (d : LongAd) → i < descriptor_count form area → d ≡ descriptor_at t form r area i → d.kind ≢ 3
    → rest_from t v size form r left c area i
    ≡ from v size (chain_from t v form r left (left_in t form r area (i + 1))).behind c (d ∷ (chain_from t v form r left (left_in t form r area (i + 1))).all)
rest-cons t v size form r left c area i d h e k =
    ap (λ ds. body_of v size c (chain_from t v form r left ds)) (left_first t form r area i d h e)
    ∙ ap (body_of v size c) (chain_from-cons t v form r left d (left_in t form r area (i + 1)) k)

-- a continuation is next
rest-next : (t : Bool) (v : View) (size form r left c : ℕ) (area : List ℕ) (i : ℕ) (d : LongAd) (next : Next) → i < descriptor_count form area → d ≡ descriptor_at t form r area i → d.kind ≡ 3
    → next_by v form (left == 0) d ≡ next
    → rest_from t v size form r left c area i ≡ body_of v size c (joined (d ∷ []) next (later t v form r left))
rest-next t v size form r left c area i d next h e k g =
    ap (λ ds. body_of v size c (chain_from t v form r left ds)) (left_first t form r area i d h e)
    ∙ ap (body_of v size c) (chain_from-next t v form r left d (left_in t form r area (i + 1)) k)
    ∙ ap (λ n. body_of v size c (joined (d ∷ []) n (later t v form r left))) g

same_is : (a b : ℕ) → (a == b) ≡ true → a ≡ b
same_is a b h = grind arith

not_is : (a b : ℕ) → (a == b) ≡ false → a ≢ b
not_is a b h = grind arith

-- a descriptor of length 0 is next, whatever else it holds
rest-zero : (t : Bool) (v : View) (size form r left c : ℕ) (area : List ℕ) (i : ℕ) (d : LongAd) → c < size → i < descriptor_count form area → d ≡ descriptor_at t form r area i → d.length ≡ 0
    → rest_from t v size form r left c area i ≡ faulty_body Short
rest-zero t v size form r left c area i d h k e z = elim (d.kind == 3) as (λ b. (d.kind == 3) ≡ b → rest_from t v size form r left c area i ≡ faulty_body Short) [
  | true ↦ λ k3. rest-next t v size form r left c area i d (next_by v form (left == 0) d) k e (same_is d.kind 3 k3) refl ∙ joined-zero (next_by v form (left == 0) d)
  | false ↦ λ k3. rest-cons t v size form r left c area i d k e (not_is d.kind 3 k3)
      ∙ from-zero v size (chain_from t v form r left (left_in t form r area (i + 1))).behind c d (chain_from t v form r left (left_in t form r area (i + 1))).all h z
] refl
  where
    joined-zero : (next : Next) → body_of v size c (joined (d ∷ []) next (later t v form r left)) ≡ faulty_body Short
    joined-zero no_more = from-zero v size no_more c d [] h z
    joined-zero (area_at a) = from-zero v size (later t v form r left a).behind c d (later t v form r left a).all h z
    joined-zero (unread_at n) = from-zero v size (unread_at n) c d [] h z
    joined-zero (broken f) = from-zero v size (broken f) c d [] h z

-- ---- the walk: what the rest gives, put behind what was taken, is the whole
pub record IsWalk (t : Bool) (v : View) (size form r : ℕ) (whole : Body) (left c : ℕ) (area : List ℕ) (i : ℕ) (taken : List Stretch) : Type 0 where
  pub so_far : onto (cells_of v taken) (rest_from t v size form r left c area i) ≡ whole

onto-onto : (x y : List Cell) (b : Body) → onto (x ++ y) b ≡ onto x (onto y b)
onto-onto x y (cells cs) = ap cells (append_assoc x y cs)
onto-onto x y (faulty_body f) = refl

onto-fault : (t : Bool) (v : View) (size form r : ℕ) (whole : Body) (left c : ℕ) (area : List ℕ) (i : ℕ) (taken : List Stretch) (f : NodeFault)
    → IsWalk t v size form r whole left c area i taken → rest_from t v size form r left c area i ≡ faulty_body f → whole ≡ faulty_body f
onto-fault t v size form r whole left c area i taken f w e = sym w.so_far ∙ ap (onto (cells_of v taken)) e

pub cells_of-push : (v : View) (taken : List Stretch) (s : Stretch) → cells_of v (taken ++ s ∷ []) ≡ cells_of v taken ++ stretch_cells v s
unfolding cells_of
cells_of-push v taken s = flat_map-append (stretch_cells v) taken (s ∷ []) ∙ ap (λ cs. flat_map (stretch_cells v) taken ++ cs) (append-nil (stretch_cells v s))

pub walk-start : (t : Bool) (v : View) (size form r : ℕ) (area : List ℕ) → IsWalk t v size form r (listed_body t v form r size area) 256 0 area 0 []
unfolding cells_of listed_body
walk-start t v size form r area = record {
  so_far =
      onto-nothing (rest_from t v size form r 256 0 area 0) ∙ sym (rest-start t v size form r 256 0 area) ∙ sym (body-from v size (chain t v form r 256 area));
}

module _ (t : Bool) (v : View) (size form r : ℕ) (whole : Body) (left c : ℕ) (area : List ℕ) (i : ℕ) (taken : List Stretch) (w : IsWalk t v size form r whole left c area i taken) where
  pub walk-done : size ≤ c → whole ≡ cells (cells_of v taken)
  walk-done h = sym w.so_far
      ∙ ap (onto (cells_of v taken)) (from-done v size (chain_from t v form r left (left_in t form r area i)).behind c (chain_from t v form r left (left_in t form r area i)).all h)
      ∙ ap cells (append-nil (cells_of v taken))

  pub walk-end : c < size → descriptor_count form area ≤ i → whole ≡ faulty_body Short
  walk-end h k = onto-fault t v size form r whole left c area i taken Short w (rest-end t v size form r left c area i h k)

  module _ (d : LongAd) (here : c < size) (is_here : i < descriptor_count form area) (is : d ≡ descriptor_at t form r area i) where
    pub walk-zero : d.length ≡ 0 → whole ≡ faulty_body Short
    walk-zero e = onto-fault t v size form r whole left c area i taken Short w (rest-zero t v size form r left c area i d here is_here is e)

    pub walk-extent : d.length ≢ 0 → d.kind ≢ 3 → (s : Stretch) → IsExtent v size c d s → IsWalk t v size form r whole left (c + stretch_count s) area (i + 1) (taken ++ s ∷ [])
    walk-extent e k s x = record {
      so_far =
          ap (λ (cs : List Cell). onto cs (rest_from t v size form r left (c + stretch_count s) area (i + 1))) (cells_of-push v taken s)
          ∙ onto-onto (cells_of v taken) (stretch_cells v s) (rest_from t v size form r left (c + stretch_count s) area (i + 1))
          ∙ ap (onto (cells_of v taken)) (sym (rest-cons t v size form r left c area i d is_here is k
          ∙ from-extent v size (chain_from t v form r left (left_in t form r area (i + 1))).behind c d (chain_from t v form r left (left_in t form r area (i + 1))).all s here e x))
          ∙ w.so_far;
    }

    pub walk-fault : d.length ≢ 0 → d.kind ≢ 3 → (f : NodeFault) → extent_fault v size (c, d) ≡ Some f → whole ≡ faulty_body f
    walk-fault e k f x = onto-fault t v size form r whole left c area i taken f w (rest-cons t v size form r left c area i d is_here is k
        ∙ from-fault v size (chain_from t v form r left (left_in t form r area (i + 1))).behind c d (chain_from t v form r left (left_in t form r area (i + 1))).all f here e x)

    pub walk-area : d.length ≢ 0 → d.kind ≡ 3 → (a : List ℕ) → next_by v form (left == 0) d ≡ area_at a → (l : ℕ) → left ≡ suc l → IsWalk t v size form r whole l c a 0 taken
    walk-area e k a g l s = record {
      so_far =
          ap (onto (cells_of v taken)) (sym (rest-start t v size form r l c a)
          ∙ ap (λ m. body_of v size c (later t v form r m a)) (sym s)
          ∙ sym (from-next v size (later t v form r left a).behind c d (later t v form r left a).all here e k)
          ∙ sym (rest-next t v size form r left c area i d (area_at a) is_here is k g))
          ∙ w.so_far;
    }

    pub walk-unread : d.length ≢ 0 → d.kind ≡ 3 → (n : ℕ) → next_by v form (left == 0) d ≡ unread_at n → whole ≡ cells (cells_of v (taken ++ Missing n (size - c) ∷ []))
    walk-unread e k n g = sym w.so_far
        ∙ ap (onto (cells_of v taken)) (rest-next t v size form r left c area i d (unread_at n) is_here is k g
        ∙ from-next v size (unread_at n) c d [] here e k ∙ from-end v size (unread_at n) c here)
        ∙ ap cells (sym (cells_of-push v taken (Missing n (size - c))))

    pub walk-broken : d.length ≢ 0 → d.kind ≡ 3 → (f : NodeFault) → next_by v form (left == 0) d ≡ broken f → whole ≡ faulty_body f
    walk-broken e k f g = onto-fault t v size form r whole left c area i taken f w (rest-next t v size form r left c area i d (broken f) is_here is k g
        ∙ from-next v size (broken f) c d [] here e k ∙ from-end v size (broken f) c here)

-- ---- how many cells there are, whatever is known of the blocks
pub count_none : (v : View) → length (cells_of v []) ≡ 0
unfolding cells_of
count_none v = refl

pub count_push : (v : View) (taken : List Stretch) (s : Stretch) → length (cells_of v (taken ++ s ∷ [])) ≡ length (cells_of v taken) + stretch_count s
count_push v taken s = ap length (cells_of-push v taken s) ∙ length-append (cells_of v taken) (stretch_cells v s) ∙ ap (λ n. length (cells_of v taken) + n) (length-stretch v s)

pub count_one : (v : View) (s : Stretch) → length (cells_of v (s ∷ [])) ≡ stretch_count s
count_one v s = count_push v [] s ∙ ap (λ n. n + stretch_count s) (count_none v) ∙ (let z : 0 + stretch_count s ≡ stretch_count s = omega arith in z)
