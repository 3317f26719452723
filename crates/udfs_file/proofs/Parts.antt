-- A body of a partition of which a part is known, beside the complete one.
use Rattle.std.proofs.Common.{◌≡◌, refl, sym, ◌∙◌, ap, subst, inl, inr, ◌⊎◌, ℕ, ◌+◌, ◌-◌, ◌/◌, ◌%◌, ◌<◌, ◌≤◌, min, Bool, true, false, List, [], ◌∷◌, ◌++◌, length, map, cond, arith, Option, Some, None, nat_eq, nat_lt, replicate}
use Rattle.std.specs.Prelude.{zero, suc, option_map}
use Rattle.std.specs.List.{range_with_len, AllZip}
use Rattle.std.proofs.lemmas.List.{append_assoc, length-replicate, length-append, append-nil}
use Rattle.std.proofs.lemmas.List.FromFn.{length-map-range_with_len}
use Rattle.udfs_lattice.specs.States.{is_known}
use Rattle.udfs_volume.specs.Sequence.{Bytes}
use Rattle.udfs_lattice.specs.States.{State}
use Rattle.udfs_lattice.specs.declared.facts.Fact.TheVariants.{Unknown, Known, Conflict}
use Rattle.udfs_tag.specs.declared.layouts.LongAd.{LongAd}
use Rattle.udfs_space.specs.Places.{View, IsPartOf}
use Rattle.udfs_volume.specs.Profiles.{takes_tail}
use Rattle.udfs_file.specs.Entries.{EntryFields}
use Rattle.udfs_file.specs.Bodies.{Next, no_more, area_at, unread_at, broken, Descriptors, covers, cells_in, extent_fault, continuation_fault, next_of, next_if, next_area, next_descriptor, up_to_next, descriptors_in, joined, no_descriptors, chain, allocation_descriptors, cell_in, cell_at, extent_cells, recorded_cell, Body, cells, faulty_body, ended_body, body_unless, extents_body}
use Rattle.udfs_file.specs.declared.cells.Cell.{Cell}
use Rattle.udfs_file.specs.declared.cells.Cell.TheVariants.{Byte, Gap}
use Rattle.udfs_file.specs.Laws.{IsCellOf}
use Rattle.udfs_file.specs.declared.faults.NodeFault.{NodeFault}
use Rattle.udfs_file.specs.declared.faults.NodeFault.TheVariants.{Short}
use Rattle.udfs_file.proofs.BodyFrom.{onto, from, le_or_lt, not_le, is_le, body-from}

-- what depends on the places alone is the same
pub same_fault : (s w : View) → IsPartOf s w → (size : ℕ) (e : ℕ × LongAd) → extent_fault s size e ≡ extent_fault w size e
same_fault s w p size e = λ i. extent_fault (record { partitions = p.partitions i; place = λ r b. p.places r b i; blocks = s.blocks; profile = p.profile i }) size e

pub same_continuation : (s w : View) → IsPartOf s w → (is_last : Bool) (d : LongAd) → continuation_fault s is_last d ≡ continuation_fault w is_last d
same_continuation s w p is_last d = λ i. continuation_fault (record { partitions = p.partitions i; place = λ r b. p.places r b i; blocks = s.blocks; profile = p.profile i }) is_last d

-- a cell is the complete one's or missing
IsCellOf-refl : (c : Cell) → IsCellOf c c
IsCellOf-refl (Byte x h) = refl
IsCellOf-refl (Gap n) = tt

along : (a a' b b' : Cell) → a ≡ a' → b ≡ b' → IsCellOf a' b' → IsCellOf a b
along a a' b b' p q h = subst (λ x. IsCellOf x b) (sym p) (subst (IsCellOf a') (sym q) h)

part_cell : (s w : View) → IsPartOf s w → (d : LongAd) (i : ℕ) → IsCellOf (recorded_cell s d.reference d.block i) (recorded_cell w d.reference d.block i)
part_cell s w p d i = go (w.place d.reference (d.block + i / 2048)) refl
  where
    b : ℕ
    b = d.block + i / 2048

    cell_by : View → Option ℕ → Cell
    cell_by v o = cell_at b (i % 2048) (option_map (λ n. (n, v.blocks n)) o)

    state : (n : ℕ) → w.place d.reference b ≡ Some n → (x : State) → s.blocks n ≡ x → IsCellOf (cell_in b n (i % 2048) (s.blocks n)) (cell_in b n (i % 2048) (w.blocks n))
    state n e Unknown q = subst (λ x. IsCellOf (cell_in b n (i % 2048) x) (cell_in b n (i % 2048) (w.blocks n))) (sym q) tt
    state n e (Known bytes) q = along (cell_in b n (i % 2048) (s.blocks n)) (cell_in b n (i % 2048) (Known bytes)) (cell_in b n (i % 2048) (w.blocks n)) (cell_in b n (i % 2048) (Known bytes))
        (ap (cell_in b n (i % 2048)) q) (ap (cell_in b n (i % 2048)) (p.agrees d.reference b n bytes e q)) refl
    state n e Conflict q = subst (λ x. IsCellOf (cell_in b n (i % 2048) x) (cell_in b n (i % 2048) (w.blocks n))) (sym q) tt

    go : (o : Option ℕ) → w.place d.reference b ≡ o → IsCellOf (cell_by s (s.place d.reference b)) (cell_by w (w.place d.reference b))
    go None e = along (cell_by s (s.place d.reference b)) (cell_by s None) (cell_by w (w.place d.reference b)) (cell_by w None)
        (ap (cell_by s) (p.places d.reference b ∙ e)) (ap (cell_by w) e) refl
    go (Some n) e = along (cell_by s (s.place d.reference b)) (cell_by s (Some n)) (cell_by w (w.place d.reference b)) (cell_by w (Some n))
        (ap (cell_by s) (p.places d.reference b ∙ e)) (ap (cell_by w) e) (state n e (s.blocks n) refl)

AllZip-map : (f g : ℕ → Cell) → ((i : ℕ) → IsCellOf (f i) (g i)) → (xs : List ℕ) → AllZip IsCellOf (map f xs) (map g xs)
AllZip-map f g h [] = tt
AllZip-map f g h (x ∷ xs) = (h x, AllZip-map f g h xs)

pub AllZip-refl : (cs : List Cell) → AllZip IsCellOf cs cs
AllZip-refl [] = tt
AllZip-refl (c ∷ cs) = (IsCellOf-refl c, AllZip-refl cs)

AllZip-append : (xs ys us vs : List Cell) → AllZip IsCellOf xs ys → AllZip IsCellOf us vs → AllZip IsCellOf (xs ++ us) (ys ++ vs)
AllZip-append [] [] us vs h k = k
AllZip-append [] (y ∷ ys) us vs h k = absurd h
AllZip-append (x ∷ xs) [] us vs h k = absurd h
AllZip-append (x ∷ xs) (y ∷ ys) us vs h k = (h.0, AllZip-append xs ys us vs h.1 k)

AllZip-missing : (n : ℕ) (cs : List Cell) → AllZip IsCellOf (replicate (length cs) (Gap n)) cs
AllZip-missing n [] = tt
AllZip-missing n (c ∷ cs) = (tt, AllZip-missing n cs)

part_cells : (s w : View) → IsPartOf s w → (size : ℕ) (e : ℕ × LongAd) → AllZip IsCellOf (extent_cells s size e) (extent_cells w size e)
part_cells s w p size e = go (nat_eq e.1.kind 0)
  where
    go : (b : Bool) → AllZip IsCellOf
        (cond b (map (recorded_cell s e.1.reference e.1.block) (range_with_len 0 (cells_in size e))) (replicate (cells_in size e) (Byte 0 None)))
        (cond b (map (recorded_cell w e.1.reference e.1.block) (range_with_len 0 (cells_in size e))) (replicate (cells_in size e) (Byte 0 None)))
    go true = AllZip-map (recorded_cell s e.1.reference e.1.block) (recorded_cell w e.1.reference e.1.block) (part_cell s w p e.1) (range_with_len 0 (cells_in size e))
    go false = AllZip-refl (replicate (cells_in size e) (Byte 0 None))

-- inversions
pub cells-same : (x y : List Cell) → cells x ≡ cells y → x ≡ y
cells-same x y e = cc

pub no_cells : {A : Type 0} (f : NodeFault) (cs : List Cell) → faulty_body f ≡ cells cs → A
no_cells f cs e = absurd (let no : ⊥ = cc in no)

pub record Onto (x : List Cell) (b : Body) (whole : List Cell) : Type 0 where
  pub rest : List Cell
  pub is : b ≡ cells rest
  pub joins : x ++ rest ≡ whole

onto-inv : (x : List Cell) (b : Body) (whole : List Cell) → onto x b ≡ cells whole → Onto x b whole
onto-inv x (cells cs) whole e = record { rest = cs; is = refl; joins = cells-same (x ++ cs) whole e }
onto-inv x (faulty_body f) whole e = no_cells f whole e

unless-inv : (o : Option NodeFault) (b : Body) (whole : List Cell) → body_unless o b ≡ cells whole → (o ≡ None) × (b ≡ cells whole)
unless-inv None b whole e = (refl, e)
unless-inv (Some f) b whole e = no_cells f whole e

pub from-done : (v : View) (size : ℕ) (behind : Next) (c : ℕ) (ds : List LongAd) → size ≤ c → from v size behind c ds ≡ cells []
from-done v size behind c [] h = ap (λ x. cond x (cells []) (ended_body (size - c) behind [])) (is_le size c h)
from-done v size behind c (d ∷ ds) h = ap (λ x. cond x (cells []) (cond (nat_lt 0 d.length)
    (body_unless (extent_fault v size (c, d)) (onto (extent_cells v size (c, d)) (from v size behind (c + covers d) ds))) (faulty_body Short))) (is_le size c h)

-- where cells are left, a descriptor is taken
pub from-on : (v : View) (size : ℕ) (behind : Next) (c : ℕ) (d : LongAd) (ds : List LongAd) → c < size
    → from v size behind c (d ∷ ds) ≡ cond (nat_lt 0 d.length) (body_unless (extent_fault v size (c, d)) (onto (extent_cells v size (c, d)) (from v size behind (c + covers d) ds))) (faulty_body Short)
from-on v size behind c d ds h = ap (λ x. cond x (cells []) (cond (nat_lt 0 d.length)
    (body_unless (extent_fault v size (c, d)) (onto (extent_cells v size (c, d)) (from v size behind (c + covers d) ds))) (faulty_body Short))) (not_le size c h)

pub from-end : (v : View) (size : ℕ) (behind : Next) (c : ℕ) → c < size → from v size behind c [] ≡ ended_body (size - c) behind []
from-end v size behind c h = ap (λ x. cond x (cells []) (ended_body (size - c) behind [])) (not_le size c h)

pub record Taken (v : View) (size : ℕ) (behind : Next) (c : ℕ) (d : LongAd) (ds : List LongAd) (whole : List Cell) : Type 0 where
  pub is_long : nat_lt 0 d.length ≡ true
  pub no_fault : extent_fault v size (c, d) ≡ None
  pub then : Onto (extent_cells v size (c, d)) (from v size behind (c + covers d) ds) whole

pub taken-inv : (v : View) (size : ℕ) (behind : Next) (c : ℕ) (d : LongAd) (ds : List LongAd) (whole : List Cell) → c < size
    → from v size behind c (d ∷ ds) ≡ cells whole → Taken v size behind c d ds whole
taken-inv v size behind c d ds whole h e = go (nat_lt 0 d.length) refl
  where
    inner : Body
    inner = body_unless (extent_fault v size (c, d)) (onto (extent_cells v size (c, d)) (from v size behind (c + covers d) ds))

    go : (b : Bool) → nat_lt 0 d.length ≡ b → Taken v size behind c d ds whole
    go true q = let u : (extent_fault v size (c, d) ≡ None) × (onto (extent_cells v size (c, d)) (from v size behind (c + covers d) ds) ≡ cells whole) =
        unless-inv (extent_fault v size (c, d)) (onto (extent_cells v size (c, d)) (from v size behind (c + covers d) ds)) whole
        (sym (ap (λ x. cond x inner (faulty_body Short)) q) ∙ sym (from-on v size behind c d ds h) ∙ e) in
        record { is_long = q; no_fault = u.0; then = onto-inv (extent_cells v size (c, d)) (from v size behind (c + covers d) ds) whole u.1 }
    go false q = no_cells Short whole (sym (ap (λ x. cond x inner (faulty_body Short)) q) ∙ sym (from-on v size behind c d ds h) ∙ e)

-- the complete body is as long as it should be
pub length-extent : (v : View) (size : ℕ) (e : ℕ × LongAd) → length (extent_cells v size e) ≡ cells_in size e
length-extent v size e = go (nat_eq e.1.kind 0)
  where
    go : (b : Bool) → length (cond b (map (recorded_cell v e.1.reference e.1.block) (range_with_len 0 (cells_in size e))) (replicate (cells_in size e) (Byte 0 None))) ≡ cells_in size e
    go true = length-map-range_with_len (recorded_cell v e.1.reference e.1.block) 0 (cells_in size e)
    go false = length-replicate (cells_in size e) (Byte 0 None)

minus_min : (s c a : ℕ) → min a (s - c) + (s - (c + a)) ≡ s - c
minus_min s c a = grind arith

ended-length : (left : ℕ) (behind : Next) (whole : List Cell) → ended_body left behind [] ≡ cells whole → length whole ≡ left
ended-length left no_more whole e = no_cells Short whole e
ended-length left (area_at a) whole e = no_cells Short whole e
ended-length left (unread_at n) whole e = sym (ap length (cells-same (replicate left (Gap n)) whole e)) ∙ length-replicate left (Gap n)
ended-length left (broken f) whole e = no_cells f whole e

none_left : (size c : ℕ) → size ≤ c → 0 ≡ size - c
none_left size c h = omega arith

pub from-length : (v : View) (size : ℕ) (behind : Next) (c : ℕ) (ds : List LongAd) (whole : List Cell) → from v size behind c ds ≡ cells whole → length whole ≡ size - c
from-length v size behind c [] whole e = go (le_or_lt size c)
  where
    go : (size ≤ c) ⊎ (c < size) → length whole ≡ size - c
    go (inl h) = sym (ap length (cells-same [] whole (sym (from-done v size behind c [] h) ∙ e))) ∙ none_left size c h
    go (inr h) = ended-length (size - c) behind whole (sym (from-end v size behind c h) ∙ e)
from-length v size behind c (d ∷ ds) whole e = go (from-length v size behind (c + covers d) ds) (le_or_lt size c)
  where
    go : ((w : List Cell) → from v size behind (c + covers d) ds ≡ cells w → length w ≡ size - (c + covers d)) → (size ≤ c) ⊎ (c < size) → length whole ≡ size - c
    go ih (inl h) = sym (ap length (cells-same [] whole (sym (from-done v size behind c (d ∷ ds) h) ∙ e))) ∙ none_left size c h
    go ih (inr h) = let t : Taken v size behind c d ds whole = taken-inv v size behind c d ds whole h e in
        sym (ap length t.then.joins) ∙ length-append (extent_cells v size (c, d)) t.then.rest
        ∙ (λ i. length-extent v size (c, d) i + ih t.then.rest t.then.is i) ∙ minus_min size c (covers d)

-- The part of a body, beside the whole.
pub record PartIs (b : Body) (whole : List Cell) : Type 0 where
  pub part : List Cell
  pub is : b ≡ cells part
  pub each : AllZip IsCellOf part whole

-- the same allocation_descriptors, of which the known ones end where something else stands behind them
compare_from : (s w : View) → IsPartOf s w → (size : ℕ) (bs bw : Next) (rest : List LongAd)
    → ((c : ℕ) (whole : List Cell) → c < size → from w size bw c rest ≡ cells whole → PartIs (ended_body (size - c) bs []) whole)
    → (c : ℕ) (xs : List LongAd) (whole : List Cell) → from w size bw c (xs ++ rest) ≡ cells whole → PartIs (from s size bs c xs) whole
compare_from s w p size bs bw rest base c [] whole e = go (le_or_lt size c)
  where
    go : (size ≤ c) ⊎ (c < size) → PartIs (from s size bs c []) whole
    go (inl h) = record {
      part = [];
      is = from-done s size bs c [] h;
      each = subst (AllZip IsCellOf []) (cells-same [] whole (sym (from-done w size bw c rest h) ∙ e)) tt;
    }
    go (inr h) = let q : PartIs (ended_body (size - c) bs []) whole = base c whole h e in
        record { part = q.part; is = from-end s size bs c h ∙ q.is; each = q.each }
compare_from s w p size bs bw rest base c (d ∷ xs) whole e = go (compare_from s w p size bs bw rest base (c + covers d) xs) (le_or_lt size c)
  where
    X : View → List Cell
    X v = extent_cells v size (c, d)

    go : ((whole : List Cell) → from w size bw (c + covers d) (xs ++ rest) ≡ cells whole → PartIs (from s size bs (c + covers d) xs) whole)
        → (size ≤ c) ⊎ (c < size) → PartIs (from s size bs c (d ∷ xs)) whole
    go ih (inl h) = record {
      part = [];
      is = from-done s size bs c (d ∷ xs) h;
      each = subst (AllZip IsCellOf []) (cells-same [] whole (sym (from-done w size bw c (d ∷ xs ++ rest) h) ∙ e)) tt;
    }
    go ih (inr h) = let t : Taken w size bw c d (xs ++ rest) whole = taken-inv w size bw c d (xs ++ rest) whole h e in
        let q : PartIs (from s size bs (c + covers d) xs) t.then.rest = ih t.then.rest t.then.is in
        record {
          part = X s ++ q.part;
          is = from-on s size bs c d xs h
              ∙ ap (λ x. cond x (body_unless (extent_fault s size (c, d)) (onto (X s) (from s size bs (c + covers d) xs))) (faulty_body Short)) t.is_long
              ∙ ap (λ x. body_unless x (onto (X s) (from s size bs (c + covers d) xs))) (same_fault s w p size (c, d) ∙ t.no_fault)
              ∙ ap (onto (X s)) q.is;
          each = subst (AllZip IsCellOf (X s ++ q.part)) t.then.joins
              (AllZip-append (X s) (X w) q.part t.then.rest (part_cells s w p size (c, d)) q.each);
        }

-- What stands behind an area: the same, or its block is not known.
data NextIs (s : View) (ns nw : Next) : Type 0 where
  next_same : ns ≡ nw → NextIs s ns nw
  next_cut : (n : ℕ) → ns ≡ unread_at n → is_known (s.blocks n) ≡ false → NextIs s ns nw

next_is : (s w : View) → IsPartOf s w → (form : ℕ) (is_last : Bool) (o : Option LongAd) → NextIs s (next_of s form is_last o) (next_of w form is_last o)
next_is s w p form is_last None = next_same refl
next_is s w p form is_last (Some d) = go (continuation_fault w is_last d) refl (w.place d.reference d.block) refl
  where
    F : View → Option NodeFault → Option ℕ → Next
    F v o k = next_if form d.block o (option_map (λ n. (n, v.blocks n)) k)

    to : (v : View) (o o' : Option NodeFault) (k k' : Option ℕ) → o ≡ o' → k ≡ k' → F v o k ≡ F v o' k'
    to v o o' k k' x y = λ i. F v (x i) (y i)

    state : (n : ℕ) → w.place d.reference d.block ≡ Some n → F s (continuation_fault s is_last d) (s.place d.reference d.block) ≡ next_area form d.block n (s.blocks n)
        → F w (continuation_fault w is_last d) (w.place d.reference d.block) ≡ next_area form d.block n (w.blocks n) → (x : State) → s.blocks n ≡ x
        → NextIs s (F s (continuation_fault s is_last d) (s.place d.reference d.block)) (F w (continuation_fault w is_last d) (w.place d.reference d.block))
    state n e fs fw Unknown q = next_cut n (fs ∙ ap (next_area form d.block n) q) (ap is_known q)
    state n e fs fw (Known bytes) q = next_same (fs ∙ ap (next_area form d.block n) (q ∙ sym (p.agrees d.reference d.block n bytes e q)) ∙ sym fw)
    state n e fs fw Conflict q = next_cut n (fs ∙ ap (next_area form d.block n) q) (ap is_known q)

    go : (o : Option NodeFault) → continuation_fault w is_last d ≡ o → (k : Option ℕ) → w.place d.reference d.block ≡ k
        → NextIs s (F s (continuation_fault s is_last d) (s.place d.reference d.block)) (F w (continuation_fault w is_last d) (w.place d.reference d.block))
    go (Some f) eo k ek = next_same (to s (continuation_fault s is_last d) (Some f) (s.place d.reference d.block) k (same_continuation s w p is_last d ∙ eo) (p.places d.reference d.block ∙ ek)
        ∙ sym (to w (continuation_fault w is_last d) (Some f) (w.place d.reference d.block) k eo ek))
    go None eo None ek = next_same (to s (continuation_fault s is_last d) None (s.place d.reference d.block) None (same_continuation s w p is_last d ∙ eo) (p.places d.reference d.block ∙ ek)
        ∙ sym (to w (continuation_fault w is_last d) None (w.place d.reference d.block) None eo ek))
    go None eo (Some n) ek = state n ek
        (to s (continuation_fault s is_last d) None (s.place d.reference d.block) (Some n) (same_continuation s w p is_last d ∙ eo) (p.places d.reference d.block ∙ ek))
        (to w (continuation_fault w is_last d) None (w.place d.reference d.block) (Some n) eo ek) (s.blocks n) refl

-- All allocation_descriptors: the same, or those up to a continuation that is not known.
pub data ChainIs (s : View) (cs cw : Descriptors) : Type 0 where
  chain_same : cs.all ≡ cw.all → cs.behind ≡ cw.behind → ChainIs s cs cw
  chain_cut : (rest : List LongAd) (n : ℕ) → cw.all ≡ cs.all ++ rest → cs.behind ≡ unread_at n → is_known (s.blocks n) ≡ false → ChainIs s cs cw

joined-all : (ds : List LongAd) (x : Next) (later : Bytes → Descriptors) → (rest : List LongAd) × ((joined ds x later).all ≡ ds ++ rest)
joined-all ds no_more later = ([], sym (append-nil ds))
joined-all ds (area_at a) later = ((later a).all, refl)
joined-all ds (unread_at n) later = ([], sym (append-nil ds))
joined-all ds (broken f) later = ([], sym (append-nil ds))

cut_chain : (s : View) (ds : List LongAd) (ns nw : Next) (ls lw : Bytes → Descriptors) (n : ℕ) → ns ≡ unread_at n → is_known (s.blocks n) ≡ false
    → ChainIs s (joined ds ns ls) (joined ds nw lw)
cut_chain s ds ns nw ls lw n e u = let j : (rest : List LongAd) × ((joined ds nw lw).all ≡ ds ++ rest) = joined-all ds nw lw in
    chain_cut j.0 n (j.1 ∙ ap (λ x. (joined ds x ls).all ++ j.0) (sym e)) (ap (λ x. (joined ds x ls).behind) e) u

joined_is : (s : View) (ds : List LongAd) (x : Next) (ls lw : Bytes → Descriptors) → ((a : Bytes) → ChainIs s (ls a) (lw a)) → ChainIs s (joined ds x ls) (joined ds x lw)
joined_is s ds no_more ls lw h = chain_same refl refl
joined_is s ds (area_at a) ls lw h = go (h a)
  where
    go : ChainIs s (ls a) (lw a) → ChainIs s (joined ds (area_at a) ls) (joined ds (area_at a) lw)
    go (chain_same e b) = chain_same (ap (λ x. ds ++ x) e) b
    go (chain_cut rest n e b u) = chain_cut rest n (ap (λ x. ds ++ x) e ∙ sym (append_assoc ds (ls a).all rest)) b u
joined_is s ds (unread_at n) ls lw h = chain_same refl refl
joined_is s ds (broken f) ls lw h = chain_same refl refl

chain_with : (s : View) (ds : List LongAd) (ns nw : Next) (ls lw : Bytes → Descriptors) → NextIs s ns nw → ((a : Bytes) → ChainIs s (ls a) (lw a))
    → ChainIs s (joined ds ns ls) (joined ds nw lw)
chain_with s ds ns nw ls lw (next_same e) h = subst (λ x. ChainIs s (joined ds x ls) (joined ds nw lw)) (sym e) (joined_is s ds nw ls lw h)
chain_with s ds ns nw ls lw (next_cut n e u) h = cut_chain s ds ns nw ls lw n e u

chain_is : (t : Bool) (s w : View) → IsPartOf s w → (form r left : ℕ) (area : Bytes) → ChainIs s (chain t s form r left area) (chain t w form r left area)
chain_is t s w p form r zero area = let ds : List LongAd = descriptors_in t form r area in
    chain_with s (up_to_next ds) (next_of s form true (next_descriptor ds)) (next_of w form true (next_descriptor ds)) (λ a. no_descriptors) (λ a. no_descriptors)
    (next_is s w p form true (next_descriptor ds)) (λ a. chain_same refl refl)
chain_is t s w p form r (suc left) area = let ds : List LongAd = descriptors_in t form r area in
    chain_with s (up_to_next ds) (next_of s form false (next_descriptor ds)) (next_of w form false (next_descriptor ds)) (λ a. chain t s form r left a) (λ a. chain t w form r left a)
    (next_is s w p form false (next_descriptor ds)) (λ a. chain_is t s w p form r left a)

pub descriptors_is : (s w : View) → IsPartOf s w → (r : ℕ) (e : EntryFields) → ChainIs s (allocation_descriptors s r e) (allocation_descriptors w r e)
unfolding allocation_descriptors
descriptors_is s w p r e = subst (λ t. ChainIs s (chain (takes_tail s.profile) s e.form r 256 e.area) (chain t w e.form r 256 e.area)) (ap takes_tail p.profile)
    (chain_is (takes_tail s.profile) s w p e.form r 256 e.area)

pub part_extents : (s w : View) → IsPartOf s w → (size : ℕ) (ds dw : Descriptors) → ChainIs s ds dw → (whole : List Cell)
    → extents_body w size dw ≡ cells whole → PartIs (extents_body s size ds) whole
part_extents s w p size ds dw (chain_same ea eb) whole e =
    let q : PartIs (from s size ds.behind 0 ds.all) whole = compare_from s w p size ds.behind dw.behind [] base 0 ds.all whole
    (ap (from w size dw.behind 0) (append-nil ds.all ∙ ea) ∙ sym (body-from w size dw) ∙ e) in
    record { part = q.part; is = body-from s size ds ∙ q.is; each = q.each }
  where
    base : (c : ℕ) (whole : List Cell) → c < size → from w size dw.behind c [] ≡ cells whole → PartIs (ended_body (size - c) ds.behind []) whole
    base c x h k = record { part = x; is = ap (λ b. ended_body (size - c) b []) eb ∙ sym (from-end w size dw.behind c h) ∙ k; each = AllZip-refl x }
part_extents s w p size ds dw (chain_cut rest n ea eb u) whole e =
    let q : PartIs (from s size ds.behind 0 ds.all) whole = compare_from s w p size ds.behind dw.behind rest base 0 ds.all whole
    (ap (from w size dw.behind 0) (sym ea) ∙ sym (body-from w size dw) ∙ e) in
    record { part = q.part; is = body-from s size ds ∙ q.is; each = q.each }
  where
    base : (c : ℕ) (whole : List Cell) → c < size → from w size dw.behind c rest ≡ cells whole → PartIs (ended_body (size - c) ds.behind []) whole
    base c x h k = record {
      part = replicate (size - c) (Gap n);
      is = ap (λ b. ended_body (size - c) b []) eb;
      each = subst (λ m. AllZip IsCellOf (replicate m (Gap n)) x) (from-length w size dw.behind c rest x k) (AllZip-missing n x);
    }
