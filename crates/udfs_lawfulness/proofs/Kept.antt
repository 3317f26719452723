-- A body without a fault has none in any complete view, where no block that is not known holds a part of its list of allocation descriptors.
use Rattle.std.proofs.Common.{◌≡◌, refl, sym, ◌∙◌, ap, subst, inl, inr, ◌⊎◌, ℕ, ◌+◌, ◌-◌, ◌%◌, ◌<◌, ◌≤◌, ◌==◌, Bool, true, false, List, [], ◌∷◌, ◌++◌, cond, ◌&&◌, arith, Option, Some, None, nat_eq, nat_le, replicate}
use Rattle.std.specs.Prelude.{zero, suc, option_map}
use Rattle.std.specs.List.{AllZip}
use Rattle.std.proofs.lemmas.List.{append_assoc, append-nil}
use Rattle.udfs_lattice.specs.States.{State}
use Rattle.udfs_lattice.specs.declared.facts.Fact.TheVariants.{Unknown, Known, Conflict}
use Rattle.udfs_tag.specs.declared.layouts.LongAd.{LongAd}
use Rattle.udfs_tag.specs.Fields.{part, uint32_at}
use Rattle.udfs_tag.specs.Tags.{is_valid, tag_of}
use Rattle.udfs_volume.specs.Sequence.{Bytes}
use Rattle.udfs_volume.specs.Profiles.{takes_tail}
use Rattle.udfs_space.specs.Places.{View, IsPartOf}
use Rattle.udfs_file.specs.Entries.{EntryFields, descriptor_size}
use Rattle.udfs_file.specs.Bodies.{Next, no_more, area_at, unread_at, broken, Descriptors, covers, extent_fault, extent_cells, continuation_fault, is_extent, next_of, next_if, next_area, next_descriptor, up_to_next, descriptors_in, joined, no_descriptors, chain, allocation_descriptors, cells, faulty_body, ended_body, body_unless, extents_body_by, embedded_body, body}
use Rattle.udfs_file.specs.Laws.{IsCellOf}
use Rattle.udfs_file.specs.declared.cells.Cell.{Cell}
use Rattle.udfs_file.specs.declared.cells.Cell.TheVariants.{Byte, Gap}
use Rattle.udfs_file.specs.declared.faults.NodeFault.{NodeFault}
use Rattle.udfs_file.specs.declared.faults.NodeFault.TheVariants.{Chain, Short}
use Rattle.udfs_file.proofs.BodyFrom.{onto, from, le_or_lt, body-from}
use Rattle.udfs_file.proofs.Parts.{PartIs, ChainIs, chain_same, chain_cut, Taken, taken-inv, cells-same, no_cells, descriptors_is, from-done, from-end, from-on, same_continuation, same_fault}
use Rattle.udfs_file.proofs.PartBodies.{part_body}
use Rattle.udfs_file.proofs.Tails.{body_counted, counted_body}
use Rattle.udfs_walk.specs.Standings.{missing_blocks}
use Rattle.udfs_lawfulness.specs.Filled.{bytes_or_zeros, filled, filled_view}

-- ---- zeros are no allocation extent descriptor
zeros_no_tag : (b : ℕ) → is_valid (replicate 2048 0) b 258 ≡ false
unfolding tag_of
zeros_no_tag b = refl

zeros_no_extent : (form b : ℕ) → is_extent form b (replicate 2048 0) ≡ false
zeros_no_extent form b = ap (λ x. x && nat_le (24 + uint32_at (replicate 2048 0) 20) 2048 && (uint32_at (replicate 2048 0) 20 % descriptor_size form == 0)) (zeros_no_tag b)

-- ---- the list of allocation descriptors
-- what stands behind an area, with zeros in place of what is not known: the same as in a complete view, or a fault
data NextKept (nz nw : Next) : Type 0 where
  next_same : nz ≡ nw → NextKept nz nw
  next_broken : nz ≡ broken Chain → NextKept nz nw

next_kept : (v w : View) → IsPartOf v w → (form : ℕ) (is_last : Bool) (o : Option LongAd) → NextKept (next_of (filled_view v) form is_last o) (next_of w form is_last o)
next_kept v w p form is_last None = next_same refl
next_kept v w p form is_last (Some d) = go (continuation_fault w is_last d) refl (w.place d.reference d.block) refl
  where
    F : View → Option NodeFault → Option ℕ → Next
    F u o k = next_if form d.block o (option_map (λ n. (n, u.blocks n)) k)

    to : (u : View) (o o' : Option NodeFault) (k k' : Option ℕ) → o ≡ o' → k ≡ k' → F u o k ≡ F u o' k'
    to u o o' k k' x y = λ i. F u (x i) (y i)

    z_is : (o : Option NodeFault) (k : Option ℕ) → continuation_fault w is_last d ≡ o → w.place d.reference d.block ≡ k → next_of (filled_view v) form is_last (Some d) ≡ F (filled_view v) o k
    z_is o k eo ek = to (filled_view v) (continuation_fault v is_last d) o (v.place d.reference d.block) k (same_continuation v w p is_last d ∙ eo) (p.places d.reference d.block ∙ ek)

    w_is : (o : Option NodeFault) (k : Option ℕ) → continuation_fault w is_last d ≡ o → w.place d.reference d.block ≡ k → next_of w form is_last (Some d) ≡ F w o k
    w_is o k eo ek = to w (continuation_fault w is_last d) o (w.place d.reference d.block) k eo ek

    zero_broken : (n : ℕ) (x : State) → v.blocks n ≡ x → bytes_or_zeros x ≡ replicate 2048 0 → next_area form d.block n (Known (bytes_or_zeros (v.blocks n))) ≡ broken Chain
    zero_broken n x q z = ap (λ y. next_area form d.block n (Known (bytes_or_zeros y))) q ∙ ap (λ y. next_area form d.block n (Known y)) z
        ∙ ap (λ b. cond b (area_at (part (replicate 2048 0) 24 (uint32_at (replicate 2048 0) 20))) (broken Chain)) (zeros_no_extent form d.block)

    state : (n : ℕ) → w.place d.reference d.block ≡ Some n → continuation_fault w is_last d ≡ None → (x : State) → v.blocks n ≡ x
        → NextKept (next_of (filled_view v) form is_last (Some d)) (next_of w form is_last (Some d))
    state n ek eo Unknown q = next_broken (z_is None (Some n) eo ek ∙ zero_broken n Unknown q refl)
    state n ek eo (Known bytes) q = next_same (z_is None (Some n) eo ek ∙ ap (λ y. next_area form d.block n (Known (bytes_or_zeros y))) q
        ∙ ap (next_area form d.block n) (sym (p.agrees d.reference d.block n bytes ek q)) ∙ sym (w_is None (Some n) eo ek))
    state n ek eo Conflict q = next_broken (z_is None (Some n) eo ek ∙ zero_broken n Conflict q refl)

    go : (o : Option NodeFault) → continuation_fault w is_last d ≡ o → (k : Option ℕ) → w.place d.reference d.block ≡ k
        → NextKept (next_of (filled_view v) form is_last (Some d)) (next_of w form is_last (Some d))
    go (Some f) eo k ek = next_same (z_is (Some f) k eo ek ∙ sym (w_is (Some f) k eo ek))
    go None eo None ek = next_same (z_is None None eo ek ∙ sym (w_is None None eo ek))
    go None eo (Some n) ek = state n ek eo (v.blocks n) refl

-- no block is unread with zeros in place of it
never_unread : (v : View) (form : ℕ) (is_last : Bool) (o : Option LongAd) (n : ℕ) → next_of (filled_view v) form is_last o ≡ unread_at n → ⊥
never_unread v form is_last None n e = cc
never_unread v form is_last (Some d) n e = go (continuation_fault v is_last d) (v.place d.reference d.block) e
  where
    area : (m : ℕ) (b : Bool) (x : Bytes) → cond b (area_at x) (broken Chain) ≡ unread_at n → ⊥
    area m true x q = cc
    area m false x q = cc

    go : (o : Option NodeFault) (k : Option ℕ) → next_if form d.block o (option_map (λ m. (m, filled v.blocks m)) k) ≡ unread_at n → ⊥
    go (Some f) k q = cc
    go None None q = cc
    go None (Some m) q = area m (is_extent form d.block (bytes_or_zeros (v.blocks m))) (part (bytes_or_zeros (v.blocks m)) 24 (uint32_at (bytes_or_zeros (v.blocks m)) 20)) q

-- the list with zeros begins that of a complete view, and does not end at a block that is not known
record ListKept (cz cw : Descriptors) : Type 0 where
  rest : List LongAd
  begins : cw.all ≡ cz.all ++ rest
  read : (n : ℕ) → cz.behind ≡ unread_at n → ⊥

joined-all : (ds : List LongAd) (x : Next) (later : Bytes → Descriptors) → (rest : List LongAd) × ((joined ds x later).all ≡ ds ++ rest)
joined-all ds no_more later = ([], sym (append-nil ds))
joined-all ds (area_at a) later = ((later a).all, refl)
joined-all ds (unread_at n) later = ([], sym (append-nil ds))
joined-all ds (broken f) later = ([], sym (append-nil ds))

joined_kept : (ds : List LongAd) (nz nw : Next) (lz lw : Bytes → Descriptors) → NextKept nz nw → ((n : ℕ) → nz ≡ unread_at n → ⊥) → ((a : Bytes) → ListKept (lz a) (lw a))
    → ListKept (joined ds nz lz) (joined ds nw lw)
joined_kept ds nz nw lz lw (next_broken e) u h = let j : (rest : List LongAd) × ((joined ds nw lw).all ≡ ds ++ rest) = joined-all ds nw lw in
    subst (λ x. ListKept (joined ds x lz) (joined ds nw lw)) (sym e) (record { rest = j.0; begins = j.1; read = λ n q. cc })
joined_kept ds nz nw lz lw (next_same e) u h = subst (λ x. ListKept (joined ds nz lz) (joined ds x lw)) e (go nz u)
  where
    go : (x : Next) → ((n : ℕ) → x ≡ unread_at n → ⊥) → ListKept (joined ds x lz) (joined ds x lw)
    go no_more k = record { rest = []; begins = sym (append-nil ds); read = k }
    go (area_at a) k = let y : ListKept (lz a) (lw a) = h a in
        record { rest = y.rest; begins = ap (λ z. ds ++ z) y.begins ∙ sym (append_assoc ds (lz a).all y.rest); read = y.read }
    go (unread_at m) k = record { rest = []; begins = sym (append-nil ds); read = k }
    go (broken f) k = record { rest = []; begins = sym (append-nil ds); read = k }

chain_kept : (t : Bool) (v w : View) → IsPartOf v w → (form r left : ℕ) (area : Bytes) → ListKept (chain t (filled_view v) form r left area) (chain t w form r left area)
chain_kept t v w p form r zero area = let ds : List LongAd = descriptors_in t form r area in
    joined_kept (up_to_next ds) (next_of (filled_view v) form true (next_descriptor ds)) (next_of w form true (next_descriptor ds)) (λ a. no_descriptors) (λ a. no_descriptors)
    (next_kept v w p form true (next_descriptor ds)) (never_unread v form true (next_descriptor ds)) (λ a. record { rest = []; begins = refl; read = λ n q. cc })
chain_kept t v w p form r (suc left) area = let ds : List LongAd = descriptors_in t form r area in
    joined_kept (up_to_next ds) (next_of (filled_view v) form false (next_descriptor ds)) (next_of w form false (next_descriptor ds))
    (λ a. chain t (filled_view v) form r left a) (λ a. chain t w form r left a)
    (next_kept v w p form false (next_descriptor ds)) (never_unread v form false (next_descriptor ds)) (λ a. chain_kept t v w p form r left a)

list_kept : (v w : View) → IsPartOf v w → (r : ℕ) (e : EntryFields) → ListKept (allocation_descriptors (filled_view v) r e) (allocation_descriptors w r e)
unfolding allocation_descriptors
list_kept v w p r e = subst (λ t. ListKept (chain (takes_tail v.profile) (filled_view v) e.form r 256 e.area) (chain t w e.form r 256 e.area)) (ap takes_tail p.profile)
    (chain_kept (takes_tail v.profile) v w p e.form r 256 e.area)

-- ---- the body
-- where the first list ends at a block that is not known, no cell is missing
abbrev pub IsAllRead : Next → List Cell → Type 0
IsAllRead behind cs = (n : ℕ) → behind ≡ unread_at n → missing_blocks cs ≡ []

missing_behind : (xs ys : List Cell) → missing_blocks (xs ++ ys) ≡ [] → missing_blocks ys ≡ []
missing_behind [] ys e = e
missing_behind (Byte x h ∷ xs) ys e = missing_behind xs ys e
missing_behind (Gap n ∷ xs) ys e = absurd (let z : ⊥ = cc in z)

some_gap : (left n : ℕ) → 0 < left → missing_blocks (replicate left (Gap n)) ≡ [] → ⊥
some_gap zero n l e = omega (arith, l)
some_gap (suc left) n l e = cc

ended_never : (left : ℕ) (behind : Next) (cs : List Cell) → 0 < left → IsAllRead behind cs → ended_body left behind [] ≡ cells cs → ⊥
ended_never left no_more cs l k e = no_cells Short cs e
ended_never left (area_at a) cs l k e = no_cells Short cs e
ended_never left (unread_at n) cs l k e = some_gap left n l (ap missing_blocks (cells-same (replicate left (Gap n)) cs e) ∙ k n refl)
ended_never left (broken f) cs l k e = no_cells f cs e

-- the descriptors of the first list cover the body, so what stands behind them does not count
from_kept : (s w : View) (size : ℕ) (bs bw : Next) (rest : List LongAd) → ((e : ℕ × LongAd) → extent_fault s size e ≡ extent_fault w size e)
    → (c : ℕ) (xs : List LongAd) (cs : List Cell) → IsAllRead bs cs → from s size bs c xs ≡ cells cs → (whole : List Cell) × (from w size bw c (xs ++ rest) ≡ cells whole)
from_kept s w size bs bw rest same c [] cs k e = go (le_or_lt size c)
  where
    go : (size ≤ c) ⊎ (c < size) → (whole : List Cell) × (from w size bw c rest ≡ cells whole)
    go (inl h) = ([], from-done w size bw c rest h)
    go (inr h) = absurd (ended_never (size - c) bs cs (omega (arith, h)) k (sym (from-end s size bs c h) ∙ e))
from_kept s w size bs bw rest same c (d ∷ xs) cs k e = go (from_kept s w size bs bw rest same (c + covers d) xs) (le_or_lt size c)
  where
    X : View → List Cell
    X u = extent_cells u size (c, d)

    go : ((cs : List Cell) → IsAllRead bs cs → from s size bs (c + covers d) xs ≡ cells cs → (whole : List Cell) × (from w size bw (c + covers d) (xs ++ rest) ≡ cells whole))
        → (size ≤ c) ⊎ (c < size) → (whole : List Cell) × (from w size bw c (d ∷ xs ++ rest) ≡ cells whole)
    go ih (inl h) = ([], from-done w size bw c (d ∷ xs ++ rest) h)
    go ih (inr h) = let t : Taken s size bs c d xs cs = taken-inv s size bs c d xs cs h e in
        let q : (whole : List Cell) × (from w size bw (c + covers d) (xs ++ rest) ≡ cells whole) =
        ih t.then.rest (λ n b. missing_behind (X s) t.then.rest (ap missing_blocks t.then.joins ∙ k n b)) t.then.is in (
          X w ++ q.0,
          from-on w size bw c d (xs ++ rest) h
              ∙ ap (λ x. cond x (body_unless (extent_fault w size (c, d)) (onto (X w) (from w size bw (c + covers d) (xs ++ rest)))) (faulty_body Short)) t.is_long
              ∙ ap (λ x. body_unless x (onto (X w) (from w size bw (c + covers d) (xs ++ rest)))) (sym (same (c, d)) ∙ t.no_fault)
              ∙ ap (onto (X w)) q.1,
        )

-- the body of a list that begins another one
listed_kept : (s w : View) (r b : ℕ) (e : EntryFields) (cs : List Cell) → ((f : ℕ × LongAd) → extent_fault s e.size f ≡ extent_fault w e.size f)
    → (rest : List LongAd) → (allocation_descriptors w r e).all ≡ (allocation_descriptors s r e).all ++ rest → IsAllRead (allocation_descriptors s r e).behind cs
    → body s r b e ≡ cells cs → (whole : List Cell) × (body w r b e ≡ cells whole)
unfolding body
listed_kept s w r b e cs same rest begins k q = go (nat_eq e.form 3) q
  where
    go : (x : Bool) → cond x (embedded_body b e) (extents_body_by s e.form r e.size e.area) ≡ cells cs
        → (whole : List Cell) × (cond x (embedded_body b e) (extents_body_by w e.form r e.size e.area) ≡ cells whole)
    go true h = (cs, h)
    go false h = let t : (whole : List Cell) × (from w e.size (allocation_descriptors w r e).behind 0 ((allocation_descriptors s r e).all ++ rest) ≡ cells whole) =
        from_kept s w e.size (allocation_descriptors s r e).behind (allocation_descriptors w r e).behind rest same 0 (allocation_descriptors s r e).all cs k
        (sym (body-from s e.size (allocation_descriptors s r e)) ∙ counted_body s r e cs h) in
        (t.0, body_counted w r e t.0 (body-from w e.size (allocation_descriptors w r e) ∙ ap (from w e.size (allocation_descriptors w r e).behind 0) begins ∙ t.1))

-- what has a body with zeros in place of what is not known has one in each complete view
pub mapped_kept : (v w : View) → IsPartOf v w → (r b : ℕ) (e : EntryFields) (cs : List Cell) → body (filled_view v) r b e ≡ cells cs → (whole : List Cell) × (body w r b e ≡ cells whole)
mapped_kept v w p r b e cs q = let k : ListKept (allocation_descriptors (filled_view v) r e) (allocation_descriptors w r e) = list_kept v w p r e in
    listed_kept (filled_view v) w r b e cs (same_fault v w p e.size) k.rest k.begins (λ n u. absurd (k.read n u)) q

-- the same cells, where none is missing
same_cells : (part whole : List Cell) → AllZip IsCellOf part whole → missing_blocks part ≡ [] → whole ≡ part
same_cells [] [] h e = refl
same_cells [] (c ∷ cs) h e = absurd h
same_cells (x ∷ xs) [] h e = absurd h
same_cells (Byte x o ∷ xs) (c ∷ cs) h e = λ i. h.0 i ∷ same_cells xs cs h.1 e i
same_cells (Gap n ∷ xs) (c ∷ cs) h e = absurd (let z : ⊥ = cc in z)

-- what is known whole is the same in each complete view
pub whole_kept : (v w : View) → IsPartOf v w → (r b : ℕ) (e : EntryFields) (cs : List Cell) → missing_blocks cs ≡ [] → body v r b e ≡ cells cs → body w r b e ≡ cells cs
whole_kept v w p r b e cs none q = some.1 ∙ ap cells (same_cells cs some.0 each none)
  where
    by : ChainIs v (allocation_descriptors v r e) (allocation_descriptors w r e) → (rest : List LongAd) × ((allocation_descriptors w r e).all ≡ (allocation_descriptors v r e).all ++ rest)
    by (chain_same a b) = ([], sym a ∙ sym (append-nil (allocation_descriptors v r e).all))
    by (chain_cut rest n a b u) = (rest, a)

    list : (rest : List LongAd) × ((allocation_descriptors w r e).all ≡ (allocation_descriptors v r e).all ++ rest)
    list = by (descriptors_is v w p r e)

    some : (whole : List Cell) × (body w r b e ≡ cells whole)
    some = listed_kept v w r b e cs (same_fault v w p e.size) list.0 list.1 (λ n u. none) q

    part : PartIs (body v r b e) some.0
    part = part_body v w p r b e some.0 some.1

    each : AllZip IsCellOf cs some.0
    each = subst (λ z. AllZip IsCellOf z some.0) (cells-same part.part cs (sym part.is ∙ q)) part.each
