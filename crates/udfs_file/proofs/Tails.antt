-- A body with the tail of its last extent, beside that without it: what has no fault without it is the same with it.
use Rattle.std.proofs.Common.{◌≡◌, refl, sym, ◌∙◌, ap, subst, inl, inr, ◌⊎◌, ℕ, ◌+◌, ◌-◌, ◌*◌, ◌<◌, ◌≤◌, ◌%◌, min, Bool, true, false, not, List, [], ◌∷◌, ◌++◌, map, cond, ◌&&◌, arith, Some, None, nat_eq, nat_le, nat_lt, replicate}
use Rattle.std.specs.Prelude.{zero, suc, ⊤}
use Rattle.std.specs.List.{range_with_len}
use Rattle.std.proofs.lemmas.Bool.{eqb-true}
use Rattle.udfs_volume.specs.Sequence.{Bytes}
use Rattle.udfs_volume.specs.Layout.{blocks_in}
use Rattle.udfs_tag.specs.declared.layouts.LongAd.{LongAd}
use Rattle.udfs_tag.specs.Faults.{first_fault}
use Rattle.udfs_space.specs.Places.{View, is_past}
use Rattle.udfs_volume.specs.Profiles.{takes_tail}
use Rattle.udfs_file.specs.Entries.{EntryFields}
use Rattle.udfs_file.specs.Bodies.{Next, no_more, area_at, unread_at, broken, Descriptors, in_whole_blocks, recorded_at, is_last_at, descriptor_at, descriptor_count, descriptors_in, covers, cells_in, extent_fault, extent_cells, recorded_cell, next_of, next_descriptor, up_to_next, joined, no_descriptors, chain, allocation_descriptors, Body, cells, faulty_body, body_unless, listed_body, or_body, extents_body, extents_body_by}
use Rattle.udfs_file.specs.declared.cells.Cell.{Cell}
use Rattle.udfs_file.specs.declared.cells.Cell.TheVariants.{Byte}
use Rattle.udfs_file.specs.declared.faults.NodeFault.{NodeFault}
use Rattle.udfs_file.specs.declared.faults.NodeFault.TheVariants.{Reference, Range, Odd, Short}
use Rattle.udfs_file.proofs.BodyFrom.{from, le_or_lt, body-from, is_lt, not_lt}
use Rattle.udfs_file.proofs.BodyFrom as front
use Rattle.udfs_file.proofs.Parts.{cells-same, from-done, from-on, Taken, taken-inv}
use Rattle.udfs_file.proofs.ChainFits.{is_other, up-cons, next-cons}

-- a descriptor as it is counted: the same, or up to the end of its last block
abbrev IsCounted : LongAd → LongAd → Type 0
IsCounted d e = (e ≡ d) ⊎ (e ≡ in_whole_blocks d)

-- each of them
abbrev pub AreCounted : List LongAd → List LongAd → Type 0
AreCounted [] [] = ⊤
AreCounted [] (e ∷ es) = ⊥
AreCounted (d ∷ ds) [] = ⊥
AreCounted (d ∷ ds) (e ∷ es) = IsCounted d e × AreCounted ds es

-- ---- one descriptor
-- that of a continuation stays as it is
continued : (d : LongAd) → nat_eq d.kind 3 ≡ true → in_whole_blocks d ≡ d
continued d three = λ i. record { kind = d.kind; length = cond (three i) d.length (2048 * blocks_in d.length); block = d.block; reference = d.reference }

-- and so does one of whole blocks
whole_already : (d : LongAd) → nat_eq d.kind 3 ≡ false → d.length % 2048 ≡ 0 → in_whole_blocks d ≡ d
whole_already d other full =
    (λ i. record { kind = d.kind; length = cond (other i) d.length (2048 * blocks_in d.length); block = d.block; reference = d.reference })
    ∙ (λ i. record { kind = d.kind; length = (let e : 2048 * blocks_in d.length ≡ d.length = omega (arith, full) in e i); block = d.block; reference = d.reference })

three_clear : {A : Type 0} (a b c : Bool) (x y z : A) → first_fault ((a, x) ∷ (b, y) ∷ (c, z) ∷ []) ≡ None → (a ≡ false) × (b ≡ false) × (c ≡ false)
three_clear true b c x y z e = absurd (let n : ⊥ = cc in n)
three_clear false true c x y z e = absurd (let n : ⊥ = cc in n)
three_clear false false true x y z e = absurd (let n : ⊥ = cc in n)
three_clear false false false x y z e = (refl, refl, refl)

clear_three : {A : Type 0} (a b c : Bool) (x y z : A) → a ≡ false → b ≡ false → c ≡ false → first_fault ((a, x) ∷ (b, y) ∷ (c, z) ∷ []) ≡ None
clear_three a b c x y z p q r = λ i. first_fault ((p i, x) ∷ (q i, y) ∷ (r i, z) ∷ [])

last_false : (a b c : Bool) → a ≡ true → b ≡ true → (a && b && not c) ≡ false → c ≡ true
last_false true true true p q e = refl
last_false true true false p q e = absurd (let n : ⊥ = cc in n)
last_false true false c p q e = absurd (let n : ⊥ = cc in n)
last_false false b c p q e = absurd (let n : ⊥ = cc in n)

middle_false : (a b c : Bool) → b ≡ false → (a && b && c) ≡ false
middle_false true b c e = ap (λ z. z && c) e
middle_false false b c e = refl

abbrev at : List Cell → Body → Body
at = front.onto

-- one that is taken, and the cells behind it
taken_by : (v : View) (size : ℕ) (behind : Next) (c : ℕ) (d : LongAd) (ds : List LongAd) (rest : List Cell) → c < size → nat_lt 0 d.length ≡ true → extent_fault v size (c, d) ≡ None
    → from v size behind (c + covers d) ds ≡ cells rest → from v size behind c (d ∷ ds) ≡ cells (extent_cells v size (c, d) ++ rest)
taken_by v size behind c d ds rest l long clear e = from-on v size behind c d ds l
    ∙ (λ i. cond (long i) (body_unless (clear i) (at (extent_cells v size (c, d)) (e i))) (faulty_body Short))

-- ---- an extent that reaches the end of the body also reaches it with the rest of its last block
record Reaches (v : View) (size c : ℕ) (d : LongAd) : Type 0 where
  fault : extent_fault v size (c, in_whole_blocks d) ≡ None
  same : extent_cells v size (c, in_whole_blocks d) ≡ extent_cells v size (c, d)
  long : nat_lt 0 (in_whole_blocks d).length ≡ true
  ends : size ≤ c + covers (in_whole_blocks d)
  ended : size ≤ c + covers d

reaches : (v : View) (size c : ℕ) (d : LongAd) → nat_eq d.kind 3 ≡ false → nat_lt 0 d.length ≡ true → size ≤ c + d.length → extent_fault v size (c, d) ≡ None → Reaches v size c d
reaches v size c d other some h clear = record { fault = fault; same = same; long = long; ends = ends; ended = ended }
  where
    n : ℕ
    n = 2048 * blocks_in d.length

    up : d.length ≤ n
    up = omega arith

    length_is : (in_whole_blocks d).length ≡ n
    length_is = ap (λ b. cond b d.length n) other

    covers_it : covers d ≡ d.length
    covers_it = ap (λ b. cond b 0 d.length) other

    covers_more : covers (in_whole_blocks d) ≡ n
    covers_more = ap (λ b. cond b 0 (in_whole_blocks d).length) other ∙ length_is

    ended : size ≤ c + covers d
    ended = omega (arith, h, covers_it)

    ends : size ≤ c + covers (in_whole_blocks d)
    ends = omega (arith, h, covers_more, up)

    positive : (a b : ℕ) → nat_lt 0 a ≡ true → a ≤ b → nat_lt 0 b ≡ true
    positive a b e l = grind arith

    long : nat_lt 0 (in_whole_blocks d).length ≡ true
    long = ap (nat_lt 0) length_is ∙ positive d.length n some up

    least : (a s : ℕ) → s ≤ a → min a s ≡ s
    least a s l = grind arith

    count : cells_in size (c, in_whole_blocks d) ≡ cells_in size (c, d)
    count = least (covers (in_whole_blocks d)) (size - c) (omega (arith, ends)) ∙ sym (least (covers d) (size - c) (omega (arith, ended)))

    same : extent_cells v size (c, in_whole_blocks d) ≡ extent_cells v size (c, d)
    same = ap (λ k. cond (nat_eq d.kind 0) (map (recorded_cell v d.reference d.block) (range_with_len 0 k)) (replicate k (Byte 0 None))) count

    tests : ((nat_eq d.kind 0 && nat_le v.partitions d.reference) ≡ false) × ((nat_eq d.kind 0 && is_past v.place d.reference d.block (blocks_in (cells_in size (c, d)))) ≡ false)
        × ((not (nat_eq d.kind 3) && nat_lt (c + d.length) size && not (nat_eq (d.length % 2048) 0)) ≡ false)
    tests = three_clear (nat_eq d.kind 0 && nat_le v.partitions d.reference) (nat_eq d.kind 0 && is_past v.place d.reference d.block (blocks_in (cells_in size (c, d))))
        (not (nat_eq d.kind 3) && nat_lt (c + d.length) size && not (nat_eq (d.length % 2048) 0)) Reference Range Odd clear

    fault : extent_fault v size (c, in_whole_blocks d) ≡ None
    fault = clear_three (nat_eq d.kind 0 && nat_le v.partitions d.reference) (nat_eq d.kind 0 && is_past v.place d.reference d.block (blocks_in (cells_in size (c, in_whole_blocks d))))
        (not (nat_eq d.kind 3) && nat_lt (c + (in_whole_blocks d).length) size && not (nat_eq ((in_whole_blocks d).length % 2048) 0)) Reference Range Odd
        tests.0 (ap (λ k. nat_eq d.kind 0 && is_past v.place d.reference d.block (blocks_in k)) count ∙ tests.1)
        (middle_false (not (nat_eq d.kind 3)) (nat_lt (c + (in_whole_blocks d).length) size) (not (nat_eq ((in_whole_blocks d).length % 2048) 0))
        (not_lt (c + (in_whole_blocks d).length) size (omega (arith, h, length_is, up))))

-- an extent that has no fault and ends before the body does is the same
same_before : (v : View) (size c : ℕ) (d : LongAd) → nat_eq d.kind 3 ≡ false → c + d.length < size → extent_fault v size (c, d) ≡ None → in_whole_blocks d ≡ d
same_before v size c d other h clear = whole_already d other (eqb-true (d.length % 2048) 0 (last_false (not (nat_eq d.kind 3)) (nat_lt (c + d.length) size) (nat_eq (d.length % 2048) 0)
    (ap not other) (is_lt (c + d.length) size h)
    (three_clear (nat_eq d.kind 0 && nat_le v.partitions d.reference) (nat_eq d.kind 0 && is_past v.place d.reference d.block (blocks_in (cells_in size (c, d))))
    (not (nat_eq d.kind 3) && nat_lt (c + d.length) size && not (nat_eq (d.length % 2048) 0)) Reference Range Odd clear).2))

-- ---- a body without a fault is the same if descriptors are counted in whole blocks
counted_from : (v : View) (size : ℕ) (behind : Next) (c : ℕ) (ds es : List LongAd) (cs : List Cell) → AreCounted ds es → from v size behind c ds ≡ cells cs → from v size behind c es ≡ cells cs
counted_from v size behind c [] [] cs r e = e
counted_from v size behind c [] (x ∷ es) cs r e = absurd r
counted_from v size behind c (d ∷ ds) [] cs r e = absurd r
counted_from v size behind c (d ∷ ds) (x ∷ es) cs (one, r) e = go (le_or_lt size c) (λ rest k. counted_from v size behind (c + covers d) ds es rest r k)
  where
    go : (size ≤ c) ⊎ (c < size) → ((rest : List Cell) → from v size behind (c + covers d) ds ≡ cells rest → from v size behind (c + covers d) es ≡ cells rest)
        → from v size behind c (x ∷ es) ≡ cells cs
    go (inl h) ih = from-done v size behind c (x ∷ es) h ∙ sym (from-done v size behind c (d ∷ ds) h) ∙ e
    go (inr h) ih = by one
      where
        t : Taken v size behind c d ds cs
        t = taken-inv v size behind c d ds cs h e

        as_it_is : from v size behind c (d ∷ es) ≡ cells cs
        as_it_is = taken_by v size behind c d es t.then.rest h t.is_long t.no_fault (ih t.then.rest t.then.is) ∙ ap cells t.then.joins

        reached : Reaches v size c d → from v size behind c (in_whole_blocks d ∷ es) ≡ cells cs
        reached q = taken_by v size behind c (in_whole_blocks d) es [] h q.long q.fault (from-done v size behind (c + covers (in_whole_blocks d)) es q.ends)
            ∙ (λ i. cells (q.same i ++ none i)) ∙ ap cells t.then.joins
          where
            none : [] ≡ t.then.rest
            none = cells-same [] t.then.rest (sym (from-done v size behind (c + covers d) ds q.ended) ∙ t.then.is)

        extended : (b : Bool) → nat_eq d.kind 3 ≡ b → (size ≤ c + d.length) ⊎ (c + d.length < size) → from v size behind c (in_whole_blocks d ∷ es) ≡ cells cs
        extended true k o = ap (λ z. from v size behind c (z ∷ es)) (continued d k) ∙ as_it_is
        extended false k (inl l) = reached (reaches v size c d k t.is_long l t.no_fault)
        extended false k (inr l) = ap (λ z. from v size behind c (z ∷ es)) (same_before v size c d k l t.no_fault) ∙ as_it_is

        by : IsCounted d x → from v size behind c (x ∷ es) ≡ cells cs
        by (inl q) = ap (λ z. from v size behind c (z ∷ es)) q ∙ as_it_is
        by (inr q) = ap (λ z. from v size behind c (z ∷ es)) q ∙ extended (nat_eq d.kind 3) refl (le_or_lt size (c + d.length))

-- ---- the descriptors of areas
same_kind : (d e : LongAd) → IsCounted d e → is_other e ≡ is_other d
same_kind d e (inl q) = ap is_other q
same_kind d e (inr q) = ap is_other q

same_continued : (d e : LongAd) → IsCounted d e → is_other d ≡ false → e ≡ d
same_continued d e (inl q) o = q
same_continued d e (inr q) o = q ∙ continued d (three (nat_eq d.kind 3) o)
  where
    three : (b : Bool) → not b ≡ false → b ≡ true
    three true p = refl
    three false p = absurd (let n : ⊥ = cc in n)

up_counted : (ds es : List LongAd) → AreCounted ds es → AreCounted (up_to_next ds) (up_to_next es)
up_counted [] [] r = tt
up_counted [] (x ∷ es) r = absurd r
up_counted (d ∷ ds) [] r = absurd r
up_counted (d ∷ ds) (x ∷ es) (one, r) = subst (λ z. AreCounted z (up_to_next (x ∷ es))) (sym (up-cons d ds))
    (subst (AreCounted (cond (is_other d) (d ∷ up_to_next ds) (d ∷ []))) (sym (up-cons x es ∙ ap (λ b. cond b (x ∷ up_to_next es) (x ∷ [])) (same_kind d x one)))
    (go (is_other d) (up_counted ds es r)))
  where
    go : (b : Bool) → AreCounted (up_to_next ds) (up_to_next es) → AreCounted (cond b (d ∷ up_to_next ds) (d ∷ [])) (cond b (x ∷ up_to_next es) (x ∷ []))
    go true ih = (one, ih)
    go false ih = (one, tt)

next_counted : (ds es : List LongAd) → AreCounted ds es → next_descriptor es ≡ next_descriptor ds
next_counted [] [] r = refl
next_counted [] (x ∷ es) r = absurd r
next_counted (d ∷ ds) [] r = absurd r
next_counted (d ∷ ds) (x ∷ es) (one, r) = next-cons x es ∙ ap (λ b. cond b (next_descriptor es) (Some x)) (same_kind d x one) ∙ go (is_other d) refl (next_counted ds es r) ∙ sym (next-cons d ds)
  where
    go : (b : Bool) → is_other d ≡ b → next_descriptor es ≡ next_descriptor ds → cond (is_other d) (next_descriptor es) (Some x) ≡ cond (is_other d) (next_descriptor ds) (Some d)
    go true q ih = ap (λ z. cond (is_other d) z (Some x)) ih ∙ (λ i. cond (q i) (next_descriptor ds) (Some x)) ∙ (λ i. cond (sym q i) (next_descriptor ds) (Some d))
    go false q ih = (λ i. cond (q i) (next_descriptor es) (Some (same_continued d x one q i))) ∙ (λ i. cond (sym q i) (next_descriptor ds) (Some d))

append_counted : (ds es us ws : List LongAd) → AreCounted ds es → AreCounted us ws → AreCounted (ds ++ us) (es ++ ws)
append_counted [] [] us ws r s = s
append_counted [] (x ∷ es) us ws r s = absurd r
append_counted (d ∷ ds) [] us ws r s = absurd r
append_counted (d ∷ ds) (x ∷ es) us ws (one, r) s = (one, append_counted ds es us ws r s)

-- all descriptors, and the same behind them
abbrev ChainCounted : Descriptors → Descriptors → Type 0
ChainCounted a b = AreCounted a.all b.all × (b.behind ≡ a.behind)

joined_counted : (ds es : List LongAd) (x : Next) (ls lt : Bytes → Descriptors) → AreCounted ds es → ((a : Bytes) → ChainCounted (ls a) (lt a)) → ChainCounted (joined ds x ls) (joined es x lt)
joined_counted ds es no_more ls lt r h = (r, refl)
joined_counted ds es (area_at a) ls lt r h = (append_counted ds es (ls a).all (lt a).all r (h a).0, (h a).1)
joined_counted ds es (unread_at n) ls lt r h = (r, refl)
joined_counted ds es (broken f) ls lt r h = (r, refl)

area_counted : (v : View) (form : ℕ) (is_last : Bool) (ds es : List LongAd) (ls lt : Bytes → Descriptors) → AreCounted ds es → ((a : Bytes) → ChainCounted (ls a) (lt a))
    → ChainCounted (joined (up_to_next ds) (next_of v form is_last (next_descriptor ds)) ls) (joined (up_to_next es) (next_of v form is_last (next_descriptor es)) lt)
area_counted v form is_last ds es ls lt r h = subst (λ o. ChainCounted (joined (up_to_next ds) (next_of v form is_last (next_descriptor ds)) ls) (joined (up_to_next es) (next_of v form is_last o) lt))
    (sym (next_counted ds es r)) (joined_counted (up_to_next ds) (up_to_next es) (next_of v form is_last (next_descriptor ds)) ls lt (up_counted ds es r) h)

in_counted : (form r : ℕ) (area : List ℕ) (a n : ℕ) → AreCounted (map (descriptor_at false form r area) (range_with_len a n)) (map (descriptor_at true form r area) (range_with_len a n))
in_counted form r area a zero = tt
in_counted form r area a (suc n) = (pick (is_last_at form r area a), in_counted form r area (a + 1) n)
  where
    d : LongAd
    d = recorded_at form r area a

    pick : (b : Bool) → IsCounted d (cond b (in_whole_blocks d) d)
    pick true = inr refl
    pick false = inl refl

chain_counted : (v : View) (form r left : ℕ) (area : List ℕ) → ChainCounted (chain false v form r left area) (chain true v form r left area)
chain_counted v form r zero area = area_counted v form true (descriptors_in false form r area) (descriptors_in true form r area) (λ a. no_descriptors) (λ a. no_descriptors)
    (in_counted form r area 0 (descriptor_count form area)) (λ a. (tt, refl))
chain_counted v form r (suc left) area = area_counted v form false (descriptors_in false form r area) (descriptors_in true form r area) (λ a. chain false v form r left a) (λ a. chain true v form r left a)
    (in_counted form r area 0 (descriptor_count form area)) (λ a. chain_counted v form r left a)

-- ---- bodies
-- a body without a fault is the same with the tail
pub tail_same : (v : View) (form r size : ℕ) (area : List ℕ) (cs : List Cell) → listed_body false v form r size area ≡ cells cs → listed_body true v form r size area ≡ cells cs
unfolding listed_body
tail_same v form r size area cs e = body-from v size S
    ∙ (λ i. from v size (h.1 i) 0 S.all)
    ∙ counted_from v size L.behind 0 L.all S.all cs h.0 (sym (body-from v size L) ∙ e)
  where
    L : Descriptors
    L = chain false v form r 256 area

    S : Descriptors
    S = chain true v form r 256 area

    h : ChainCounted L S
    h = chain_counted v form r 256 area

by_flag : (v : View) (form r size : ℕ) (area : List ℕ) (cs : List Cell) (t : Bool)
    → cond t (or_body (listed_body true v form r size area) (listed_body false v form r size area)) (listed_body false v form r size area) ≡ cells cs → listed_body t v form r size area ≡ cells cs
by_flag v form r size area cs false e = e
by_flag v form r size area cs true e = go (listed_body true v form r size area) refl e
  where
    go : (b : Body) → listed_body true v form r size area ≡ b → or_body b (listed_body false v form r size area) ≡ cells cs → listed_body true v form r size area ≡ cells cs
    go (cells xs) q k = q ∙ k
    go (faulty_body f) q k = tail_same v form r size area cs k

-- where a body has no fault it is that of the descriptors as they are counted
pub counted_body : (v : View) (r : ℕ) (e : EntryFields) (cs : List Cell) → extents_body_by v e.form r e.size e.area ≡ cells cs → extents_body v e.size (allocation_descriptors v r e) ≡ cells cs
unfolding extents_body_by listed_body allocation_descriptors
counted_body v r e cs q = by_flag v e.form r e.size e.area cs (takes_tail v.profile) q

-- and back
pub body_counted : (v : View) (r : ℕ) (e : EntryFields) (cs : List Cell) → extents_body v e.size (allocation_descriptors v r e) ≡ cells cs → extents_body_by v e.form r e.size e.area ≡ cells cs
unfolding extents_body_by listed_body allocation_descriptors
body_counted v r e cs q = go (takes_tail v.profile) q
  where
    go : (t : Bool) → extents_body v e.size (chain t v e.form r 256 e.area) ≡ cells cs
        → cond t (or_body (extents_body v e.size (chain true v e.form r 256 e.area)) (extents_body v e.size (chain false v e.form r 256 e.area)))
        (extents_body v e.size (chain false v e.form r 256 e.area)) ≡ cells cs
    go true k = ap (λ b. or_body b (extents_body v e.size (chain false v e.form r 256 e.area))) k
    go false k = k

-- ---- one after the other
pub with_tail : (v : View) (form r size : ℕ) (area : List ℕ) (cs : List Cell) → takes_tail v.profile ≡ true → listed_body true v form r size area ≡ cells cs → extents_body_by v form r size area ≡ cells cs
unfolding extents_body_by
with_tail v form r size area cs t e = λ i. cond (t i) (or_body (e i) (listed_body false v form r size area)) (listed_body false v form r size area)

pub without_tail : (v : View) (form r size : ℕ) (area : List ℕ) (f : NodeFault) → takes_tail v.profile ≡ true → listed_body true v form r size area ≡ faulty_body f
    → extents_body_by v form r size area ≡ listed_body false v form r size area
unfolding extents_body_by
without_tail v form r size area f t e = λ i. cond (t i) (or_body (e i) (listed_body false v form r size area)) (listed_body false v form r size area)

pub no_tail : (v : View) (form r size : ℕ) (area : List ℕ) → takes_tail v.profile ≡ false → extents_body_by v form r size area ≡ listed_body false v form r size area
unfolding extents_body_by
no_tail v form r size area t = ap (λ b. cond b (or_body (listed_body true v form r size area) (listed_body false v form r size area)) (listed_body false v form r size area)) t
