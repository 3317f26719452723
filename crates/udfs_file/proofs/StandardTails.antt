-- The standard's body, of descriptors as they are recorded and the tail of the last extent, is that of the descriptors as the report counts
-- them: each definition gives the other.
--     body_as_counted, body_by_standard     from one to the other, over blocks of at most 2048 bytes
use Rattle.std.proofs.Common.{◌≡◌, ◌≢◌, refl, sym, ◌∙◌, ap, subst, inl, inr, ◌⊎◌, ℕ, ◌+◌, ◌-◌, ◌*◌, ◌<◌, ◌≤◌, ◌%◌, min, Bool, true, false, not, List, [], ◌∷◌, ◌++◌, length, take, map, cond, ◌&&◌, ◌||◌, arith, Option, Some, None, nat_eq, nat_le, nat_lt, replicate}
use Rattle.std.specs.Prelude.{zero, suc, drop, filter, flat_map, take_while}
use Rattle.std.specs.List.{range_with_len}
use Rattle.std.proofs.lemmas.Bool.{le-leb}
use Rattle.std.proofs.lemmas.List.{append-nil, append_assoc, length-append, length-take, length-replicate, replicate-append-replicate, take-append-drop, take_all}
use Rattle.std.proofs.lemmas.List.Sums.{take_while-cons}
use Rattle.udfs_volume.specs.Sequence.{Bytes}
use Rattle.udfs_volume.specs.Layout.{blocks_in}
use Rattle.udfs_volume.specs.Profiles.{takes_tail}
use Rattle.udfs_lattice.specs.declared.facts.Fact.TheVariants.{Known}
use Rattle.udfs_tag.specs.declared.layouts.LongAd.{LongAd}
use Rattle.udfs_tag.specs.Fields.{part, uint32_at}
use Rattle.udfs_space.specs.Places.{View}
use Rattle.udfs_file.specs.Entries.{EntryFields}
use Rattle.udfs_file.specs.Bodies.{in_whole_blocks, recorded_at, is_last_at, descriptor_at, descriptor_count, descriptors_in, next_descriptor, up_to_next}
use Rattle.udfs_file.specs.Complete.{IsComplete}
use Rattle.udfs_file.specs.Standard.{PartitionBlocks, Located, block_bytes, extent_blocks, extent_bytes, bytes_behind, recorded_in, IsOneBlock, IsExtentAt, IsListed, up_to_end, extents_of, tail_of, tail_by, IsEmbeddedBody}
use Rattle.udfs_file.specs.Standard as standard
use Rattle.udfs_file.proofs.BodyFrom.{is_lt, not_le}
use Rattle.udfs_file.proofs.ChainFits.{is_other, up-cons, next-cons}
use Rattle.udfs_file.proofs.CountedBodies.{extents_in, IsExtentOf, AreExtentsOf, IsJoined, IsExtentsBody, IsBodyOf}

-- ---- one descriptor
-- a descriptor, or up to the end of its last block
abbrev as_counted : Bool → LongAd → LongAd
as_counted b d = cond b (in_whole_blocks d) d

other_same : (b : Bool) (d : LongAd) → is_other (as_counted b d) ≡ is_other d
other_same true d = refl
other_same false d = refl

-- one that continues the list stays as it is
continued : (b : Bool) (d : LongAd) → is_other d ≡ false → as_counted b d ≡ d
continued false d e = refl
continued true d e = λ i. record { kind = d.kind; length = cond (three (nat_eq d.kind 3) e i) d.length (2048 * blocks_in d.length); block = d.block; reference = d.reference }
  where
    three : (x : Bool) → not x ≡ false → x ≡ true
    three true p = refl
    three false p = absurd (let z : ⊥ = cc in z)

-- one is empty if the other is
long_same : (b : Bool) (d : LongAd) → nat_lt 0 (as_counted b d).length ≡ nat_lt 0 d.length
long_same false d = refl
long_same true d = go (nat_eq d.kind 3)
  where
    more : (n : ℕ) → nat_lt 0 (2048 * blocks_in n) ≡ nat_lt 0 n
    more n = grind arith

    go : (x : Bool) → nat_lt 0 (cond x d.length (2048 * blocks_in d.length)) ≡ nat_lt 0 d.length
    go true = refl
    go false = more d.length

-- ---- lists
abbrev none : List LongAd → Bool
none [] = true
none (d ∷ ds) = false

-- nothing follows, or a descriptor of length 0
abbrev ends : List LongAd → Bool
ends [] = true
ends (d ∷ ds) = nat_eq d.length 0

-- the descriptors of an area as they are counted
abbrev counted : Bool → List LongAd → List LongAd
counted t [] = []
counted t (d ∷ ds) = as_counted (t && ends ds) d ∷ counted t ds

-- a list of which the last is counted so
abbrev marked : Bool → List LongAd → List LongAd
marked t [] = []
marked t (d ∷ ds) = as_counted (t && none ds) d ∷ marked t ds

not_less : (c a : ℕ) → a + 1 ≡ c → nat_le c (a + 1) ≡ true
not_less c a e = le-leb c (a + 1) (omega (arith, e))

less : (c a n : ℕ) → a + suc (suc n) ≡ c → nat_le c (a + 1) ≡ false
less c a n e = not_le c (a + 1) (omega (arith, e))

counted_from : (t : Bool) (form r : ℕ) (area : Bytes) (a n : ℕ) → a + n ≡ descriptor_count form area
    → map (descriptor_at t form r area) (range_with_len a n) ≡ counted t (map (recorded_at form r area) (range_with_len a n))
counted_from t form r area a zero e = refl
counted_from t form r area a (suc n) e = λ i. as_counted (t && last n e i) (recorded_at form r area a)
    ∷ counted_from t form r area (a + 1) n (let g : a + 1 + n ≡ a + suc n = omega arith in g ∙ e) i
  where
    last : (n : ℕ) → a + suc n ≡ descriptor_count form area → is_last_at form r area a ≡ ends (map (recorded_at form r area) (range_with_len (a + 1) n))
    last zero q = ap (λ b. b || nat_eq (recorded_at form r area (a + 1)).length 0) (not_less (descriptor_count form area) a q)
    last (suc n) q = ap (λ b. b || nat_eq (recorded_at form r area (a + 1)).length 0) (less (descriptor_count form area) a n q)

counted_in : (t : Bool) (form r : ℕ) (area : Bytes) → descriptors_in t form r area ≡ counted t (recorded_in form r area)
counted_in t form r area = counted_from t form r area 0 (descriptor_count form area) (plain (descriptor_count form area))
  where
    plain : (n : ℕ) → 0 + n ≡ n
    plain n = omega arith

next_same : (t : Bool) (ds : List LongAd) → next_descriptor (counted t ds) ≡ next_descriptor ds
next_same t [] = refl
next_same t (d ∷ ds) = next-cons (as_counted (t && ends ds) d) (counted t ds)
    ∙ (λ i. cond (other_same (t && ends ds) d i) (next_same t ds i) (Some (as_counted (t && ends ds) d)))
    ∙ go (is_other d) refl ∙ sym (next-cons d ds)
  where
    go : (b : Bool) → is_other d ≡ b → cond (is_other d) (next_descriptor ds) (Some (as_counted (t && ends ds) d)) ≡ cond (is_other d) (next_descriptor ds) (Some d)
    go true q = (λ i. cond (q i) (next_descriptor ds) (Some (as_counted (t && ends ds) d))) ∙ (λ i. cond (sym q i) (next_descriptor ds) (Some d))
    go false q = ap (λ z. cond (is_other d) (next_descriptor ds) (Some z)) (continued (t && ends ds) d q)

-- ---- the extents of a list, by both
abbrev Same : Bool → List LongAd → List LongAd → Type 0
Same t os ls = up_to_end os ≡ filter is_other (marked t (up_to_end ls))

-- what may follow the descriptors of an area: nothing, or what its first descriptor of type 3 leads to, which is not empty
abbrev MayGoOn : List LongAd → List LongAd → List LongAd → Type 0
MayGoOn ds os ls = ((os ≡ []) × (ls ≡ [])) ⊎ ((n : LongAd) × (next_descriptor ds ≡ Some n) × (nat_lt 0 n.length ≡ true))

end_cons : (d : LongAd) (ds : List LongAd) → up_to_end (d ∷ ds) ≡ cond (nat_lt 0 d.length) (d ∷ up_to_end ds) []
end_cons d ds = take_while-cons (λ a. nat_lt 0 a.length) d ds

kept_other : (t : Bool) (d : LongAd) (ms : List LongAd) → is_other d ≡ true → filter is_other (marked t (d ∷ ms)) ≡ as_counted (t && none ms) d ∷ filter is_other (marked t ms)
kept_other t d ms e = ap (λ b. cond b (as_counted (t && none ms) d ∷ filter is_other (marked t ms)) (filter is_other (marked t ms))) (other_same (t && none ms) d ∙ e)

left_three : (t : Bool) (d : LongAd) (ms : List LongAd) → is_other d ≡ false → filter is_other (marked t (d ∷ ms)) ≡ filter is_other (marked t ms)
left_three t d ms e = ap (λ b. cond b (as_counted (t && none ms) d ∷ filter is_other (marked t ms)) (filter is_other (marked t ms))) (other_same (t && none ms) d ∙ e)

goes_on : (d : LongAd) (ds os ls : List LongAd) → is_other d ≡ true → MayGoOn (d ∷ ds) os ls → MayGoOn ds os ls
goes_on d ds os ls e (inl h) = inl h
goes_on d ds os ls e (inr (n, q, long)) = inr (n, sym (next-cons d ds ∙ ap (λ b. cond b (next_descriptor ds) (Some d)) e) ∙ q, long)

-- what follows a descriptor ends the list there exactly if it does so in the whole
ends_there : (d : LongAd) (ds os ls : List LongAd) → is_other d ≡ true → MayGoOn (d ∷ ds) os ls → ends ds ≡ none (up_to_end (up_to_next ds ++ ls))
ends_there d [] os ls e (inl (o, l)) = ap (λ z. none (up_to_end z)) (sym l)
ends_there d [] os ls e (inr (n, q, long)) = absurd (let z : None ≡ Some n = sym (next-cons d [] ∙ ap (λ b. cond b (next_descriptor []) (Some d)) e) ∙ q in let x : ⊥ = cc in x)
ends_there d (a ∷ ds) os ls e g = zero_not a.length ∙ sym (shown (nat_lt 0 a.length) (rest (is_other a))) ∙ sym (ap none (end_cons a (rest (is_other a)))) ∙ ap (λ z. none (up_to_end (z ++ ls))) (begins (is_other a)) ∙ sym (ap (λ z. none (up_to_end (z ++ ls))) (up-cons a ds))
  where
    zero_not : (n : ℕ) → nat_eq n 0 ≡ not (nat_lt 0 n)
    zero_not n = grind arith

    rest : Bool → List LongAd
    rest b = cond b (up_to_next ds) [] ++ ls

    shown : (b : Bool) (xs : List LongAd) → none (cond b (a ∷ up_to_end xs) []) ≡ not b
    shown true xs = refl
    shown false xs = refl

    begins : (b : Bool) → a ∷ cond b (up_to_next ds) [] ≡ cond b (a ∷ up_to_next ds) (a ∷ [])
    begins true = refl
    begins false = refl

lists_same : (t : Bool) (os ls ds : List LongAd) → Same t os ls → MayGoOn ds os ls → Same t (take_while is_other (counted t ds) ++ os) (up_to_next ds ++ ls)
lists_same t os ls [] e g = e
lists_same t os ls (d ∷ ds) e g = go (is_other d) refl (lists_same t os ls ds e)
  where
    x : LongAd
    x = as_counted (t && ends ds) d

    tw : List LongAd
    tw = take_while is_other (counted t ds)

    front : (b : Bool) → is_other d ≡ b → take_while is_other (counted t (d ∷ ds)) ++ os ≡ cond b (x ∷ tw) [] ++ os
    front b q = ap (λ z. z ++ os) (take_while-cons is_other x (counted t ds) ∙ ap (λ b. cond b (x ∷ tw) []) (other_same (t && ends ds) d ∙ q))

    back : (b : Bool) → is_other d ≡ b → up_to_next (d ∷ ds) ++ ls ≡ cond b (d ∷ up_to_next ds) (d ∷ []) ++ ls
    back b q = ap (λ z. z ++ ls) (up-cons d ds ∙ ap (λ b. cond b (d ∷ up_to_next ds) (d ∷ [])) q)

    shown : List LongAd → List LongAd
    shown zs = filter is_other (marked t (up_to_end zs))

    -- behind a descriptor of type 3
    three : is_other d ≡ false → (b : Bool) → nat_lt 0 d.length ≡ b → MayGoOn (d ∷ ds) os ls → filter is_other (marked t (cond b (d ∷ up_to_end ls) [])) ≡ shown ls
    three q true l h = left_three t d (up_to_end ls) q
    three q false l (inl (o, k)) = ap shown (sym k)
    three q false l (inr (n, m, long)) = absurd (let at : d ≡ n = (let z : Some d ≡ Some n = sym (next-cons d ds ∙ ap (λ b. cond b (next_descriptor ds) (Some d)) q) ∙ m in cc) in
        let y : false ≡ true = sym l ∙ ap (λ (a : LongAd). nat_lt 0 a.length) at ∙ long in let z : ⊥ = cc in z)

    -- at one of another type
    other : is_other d ≡ true → Same t (tw ++ os) (up_to_next ds ++ ls) → (b : Bool) → cond b (x ∷ up_to_end (tw ++ os)) [] ≡ filter is_other (marked t (cond b (d ∷ up_to_end (up_to_next ds ++ ls)) []))
    other q ih false = refl
    other q ih true = (λ i. as_counted (t && ends_there d ds os ls q g i) d ∷ ih i) ∙ sym (kept_other t d (up_to_end (up_to_next ds ++ ls)) q)

    go : (b : Bool) → is_other d ≡ b → (MayGoOn ds os ls → Same t (tw ++ os) (up_to_next ds ++ ls)) → Same t (take_while is_other (counted t (d ∷ ds)) ++ os) (up_to_next (d ∷ ds) ++ ls)
    go false q ih = ap up_to_end (front false q) ∙ e ∙ sym (ap shown (back false q) ∙ ap (λ z. filter is_other (marked t z)) (end_cons d ls) ∙ three q (nat_lt 0 d.length) refl g)
    go true q ih = ap up_to_end (front true q) ∙ end_cons x (tw ++ os) ∙ ap (λ b. cond b (x ∷ up_to_end (tw ++ os)) []) (long_same (t && ends ds) d)
        ∙ other q (ih (goes_on d ds os ls q g)) (nat_lt 0 d.length)
        ∙ sym (ap shown (back true q) ∙ ap (λ z. filter is_other (marked t z)) (end_cons d (up_to_next ds ++ ls)))

-- one area, and what follows it
area_same : (t : Bool) (form r : ℕ) (area : Bytes) (os ls : List LongAd) → Same t os ls → MayGoOn (recorded_in form r area) os ls
    → Same t (extents_in t form r area ++ os) (up_to_next (recorded_in form r area) ++ ls)
area_same t form r area os ls e g = ap (λ z. up_to_end (take_while is_other z ++ os)) (counted_in t form r area) ∙ lists_same t os ls (recorded_in form r area) e g

last_area : (t : Bool) (form r : ℕ) (area : Bytes) → Same t (extents_in t form r area) (up_to_next (recorded_in form r area))
last_area t form r area = (λ i. up_to_end (sym (append-nil (extents_in t form r area)) i)) ∙ area_same t form r area [] [] refl (inl (refl, refl))
    ∙ (λ i. filter is_other (marked t (up_to_end (append-nil (up_to_next (recorded_in form r area)) i))))

next_in : (t : Bool) (form r : ℕ) (area : Bytes) → next_descriptor (descriptors_in t form r area) ≡ next_descriptor (recorded_in form r area)
next_in t form r area = ap next_descriptor (counted_in t form r area) ∙ next_same t (recorded_in form r area)

-- what the list of a continuation gives, and of this area and it
abbrev AsCounted : PartitionBlocks → ℕ → ℕ → Bytes → List Bytes → List LongAd → Type 0
AsCounted blocks form r area f ls = (os : List LongAd) × IsJoined blocks form r area f os × Same (takes_tail blocks.profile) os ls

listed_as_counted : (blocks : PartitionBlocks) (form r : ℕ) (area : Bytes) (f : List Bytes) (ls : List LongAd) → IsListed blocks form r area f ls → AsCounted blocks form r area f ls
listed_as_counted blocks form r area [] ls h = (extents_in t form r area, refl, subst (Same t (extents_in t form r area)) (sym h) (last_area t form r area))
  where
    t : Bool
    t = takes_tail blocks.profile
listed_as_counted blocks form r area (b ∷ f) ls (d, later, n, one, at, is, more, e) = go (listed_as_counted blocks form r (part b 24 (uint32_at b 20)) f later more)
  where
    t : Bool
    t = takes_tail blocks.profile

    go : AsCounted blocks form r (part b 24 (uint32_at b 20)) f later → AsCounted blocks form r area (b ∷ f) ls
    go (os, joined, same) = (
      extents_in t form r area ++ os,
      (d, os, next_in t form r area ∙ n, one, at, is, joined, refl),
      subst (Same t (extents_in t form r area ++ os)) (sym e) (area_same t form r area os later same (inr (d, n, is_lt 0 d.length one.0))),
    )

-- and back
abbrev ByStandard : PartitionBlocks → ℕ → ℕ → Bytes → List Bytes → List LongAd → Type 0
ByStandard blocks form r area f os = (ls : List LongAd) × IsListed blocks form r area f ls × Same (takes_tail blocks.profile) os ls

joined_by_standard : (blocks : PartitionBlocks) (form r : ℕ) (area : Bytes) (f : List Bytes) (os : List LongAd) → IsJoined blocks form r area f os → ByStandard blocks form r area f os
joined_by_standard blocks form r area [] os h = (up_to_next (recorded_in form r area), refl, subst (λ z. Same t z (up_to_next (recorded_in form r area))) (sym h) (last_area t form r area))
  where
    t : Bool
    t = takes_tail blocks.profile
joined_by_standard blocks form r area (b ∷ f) os (d, later, n, one, at, is, more, e) = go (joined_by_standard blocks form r (part b 24 (uint32_at b 20)) f later more)
  where
    t : Bool
    t = takes_tail blocks.profile

    next : next_descriptor (recorded_in form r area) ≡ Some d
    next = sym (next_in t form r area) ∙ n

    go : ByStandard blocks form r (part b 24 (uint32_at b 20)) f later → ByStandard blocks form r area (b ∷ f) os
    go (ls, listed, same) = (
      up_to_next (recorded_in form r area) ++ ls,
      (d, ls, next, one, at, is, listed, refl),
      subst (λ z. Same t z (up_to_next (recorded_in form r area) ++ ls)) (sym e) (area_same t form r area later ls same (inr (d, next, is_lt 0 d.length one.0))),
    )

-- ---- the bytes
-- no block has more than 2048
abbrev pub BlocksFit : PartitionBlocks → Type 0
BlocksFit blocks = (r b : ℕ) (bytes : Bytes) → blocks.at r b ≡ Some bytes → length bytes ≤ 2048

pub blocks_fit : (all : View) (blocks : PartitionBlocks) → IsComplete all blocks → BlocksFit blocks
blocks_fit all blocks w r b bytes e = go (all.place r b) refl
  where
    go : (o : Option ℕ) → all.place r b ≡ o → length bytes ≤ 2048
    go None q = absurd (let z : None ≡ Some bytes = sym (w.nowhere r b q) ∙ e in let x : ⊥ = cc in x)
    go (Some n) q = let t : (x : Bytes) × (all.blocks n ≡ Known x) × (blocks.at r b ≡ Some x) × (length x ≡ 2048) = w.there r b n q in
        let same : t.0 ≡ bytes = (let z : Some (t.0) ≡ Some bytes = sym t.2 ∙ e in cc) in
        let l : length bytes ≡ 2048 = sym (ap length same) ∙ t.3 in omega (arith, l)

module _ (blocks : PartitionBlocks) (fit : BlocksFit blocks) where
  length-located : (b : ℕ) (bytes : Bytes) → length (block_bytes b (Some bytes)) ≡ length bytes
  length-located b [] = refl
  length-located b (x ∷ xs) = ap suc (length-located b xs)

  block_short : (r b : ℕ) → length (block_bytes b (blocks.at r b)) ≤ 2048
  block_short r b = go (blocks.at r b) refl
    where
      go : (o : Option Bytes) → blocks.at r b ≡ o → length (block_bytes b (blocks.at r b)) ≤ 2048
      go None e = subst (λ o. length (block_bytes b o) ≤ 2048) (sym e) (omega arith)
      go (Some bytes) e = subst (λ o. length (block_bytes b o) ≤ 2048) (sym e) (let l : length (block_bytes b (Some bytes)) ≡ length bytes = length-located b bytes in let k : length bytes ≤ 2048 = fit r b bytes e in omega (arith, l, k))

  blocks_short : (r m s : ℕ) → length (flat_map (λ b. block_bytes b (blocks.at r b)) (range_with_len s m)) ≤ 2048 * m
  blocks_short r zero s = omega arith
  blocks_short r (suc m) s = let a : length (block_bytes s (blocks.at r s) ++ flat_map (λ b. block_bytes b (blocks.at r b)) (range_with_len (s + 1) m))
      ≡ length (block_bytes s (blocks.at r s)) + length (flat_map (λ b. block_bytes b (blocks.at r b)) (range_with_len (s + 1) m)) =
      length-append (block_bytes s (blocks.at r s)) (flat_map (λ b. block_bytes b (blocks.at r b)) (range_with_len (s + 1) m)) in
      let one : length (block_bytes s (blocks.at r s)) ≤ 2048 = block_short r s in
      let more : length (flat_map (λ b. block_bytes b (blocks.at r b)) (range_with_len (s + 1) m)) ≤ 2048 * m = blocks_short r m (s + 1) in omega (arith, a, one, more)

  -- an extent up to the end of its last block: its own bytes and those behind it
  whole_bytes : (d : LongAd) → nat_eq d.kind 3 ≡ false → extent_bytes blocks (in_whole_blocks d) ≡ extent_bytes blocks d ++ bytes_behind blocks d
  whole_bytes d e = (λ i. of_length (cond (e i) d.length n)) ∙ (λ i. cond (nat_eq d.kind 0) (take n (from_blocks (same_blocks i))) (replicate n (0, None))) ∙ go (nat_eq d.kind 0)
    where
      n : ℕ
      n = 2048 * blocks_in d.length

      from_blocks : ℕ → List Located
      from_blocks m = flat_map (λ b. block_bytes b (blocks.at d.reference b)) (range_with_len d.block m)

      of_length : ℕ → List Located
      of_length k = cond (nat_eq d.kind 0) (take k (from_blocks (blocks_in k))) (replicate k (0, None))

      same_blocks : blocks_in n ≡ blocks_in d.length
      same_blocks = omega arith

      up : d.length ≤ n
      up = omega arith

      X : List Located
      X = from_blocks (blocks_in d.length)

      filled : d.length + (n - d.length) ≡ n
      filled = omega (arith, up)

      go : (b : Bool) → cond b (take n X) (replicate n (0, None)) ≡ cond b (take d.length X) (replicate d.length (0, None)) ++ cond b (drop d.length X) (replicate (n - d.length) (0, None))
      go true = take_all n X (blocks_short d.reference (blocks_in d.length) d.block) ∙ sym (take-append-drop d.length X)
      go false = (λ i. replicate (sym filled i) (0, None)) ∙ sym (replicate-append-replicate d.length (n - d.length) (0, None))

  abbrev bytes_in : List LongAd → List Located
  bytes_in ds = flat_map (extent_bytes blocks) (filter is_other ds)

  not_three : (x : Bool) → not x ≡ true → x ≡ false
  not_three true e = absurd (let z : ⊥ = cc in z)
  not_three false e = refl

  tail_bytes : (ds : List LongAd) → bytes_in (marked true ds) ≡ bytes_in ds ++ tail_of blocks ds
  tail_bytes [] = refl
  tail_bytes (d ∷ []) = go (nat_eq d.kind 3) refl
    where
      go : (b : Bool) → nat_eq d.kind 3 ≡ b → flat_map (extent_bytes blocks) (cond (not (nat_eq d.kind 3)) (in_whole_blocks d ∷ []) [])
          ≡ flat_map (extent_bytes blocks) (cond (not (nat_eq d.kind 3)) (d ∷ []) []) ++ cond (nat_eq d.kind 3) [] (bytes_behind blocks d)
      go true e = subst (λ b. flat_map (extent_bytes blocks) (cond (not b) (in_whole_blocks d ∷ []) []) ≡ flat_map (extent_bytes blocks) (cond (not b) (d ∷ []) []) ++ cond b [] (bytes_behind blocks d)) (sym e) refl
      go false e = subst (λ b. flat_map (extent_bytes blocks) (cond (not b) (in_whole_blocks d ∷ []) []) ≡ flat_map (extent_bytes blocks) (cond (not b) (d ∷ []) []) ++ cond b [] (bytes_behind blocks d)) (sym e)
          (append-nil (extent_bytes blocks (in_whole_blocks d)) ∙ whole_bytes d e ∙ (λ i. sym (append-nil (extent_bytes blocks d)) i ++ bytes_behind blocks d))
  tail_bytes (d ∷ a ∷ ds) = go (is_other d) (tail_bytes (a ∷ ds))
    where
      go : (b : Bool) → bytes_in (marked true (a ∷ ds)) ≡ bytes_in (a ∷ ds) ++ tail_of blocks (a ∷ ds)
          → flat_map (extent_bytes blocks) (cond b (d ∷ filter is_other (marked true (a ∷ ds))) (filter is_other (marked true (a ∷ ds))))
          ≡ flat_map (extent_bytes blocks) (cond b (d ∷ filter is_other (a ∷ ds)) (filter is_other (a ∷ ds))) ++ tail_of blocks (a ∷ ds)
      go true ih = ap (λ z. extent_bytes blocks d ++ z) ih ∙ sym (append_assoc (extent_bytes blocks d) (bytes_in (a ∷ ds)) (tail_of blocks (a ∷ ds)))
      go false ih = ih

  marked_none : (ds : List LongAd) → marked false ds ≡ ds
  marked_none [] = refl
  marked_none (d ∷ ds) = ap (λ z. d ∷ z) (marked_none ds)

  all_bytes : (t : Bool) (ds : List LongAd) → bytes_in (marked t ds) ≡ bytes_in ds ++ cond t (tail_of blocks ds) []
  all_bytes true ds = tail_bytes ds
  all_bytes false ds = ap bytes_in (marked_none ds) ∙ sym (append-nil (bytes_in ds))

-- ---- which extents are good
pub min_left : (a b : ℕ) → min a b ≤ a
min_left a b = grind arith

short : (n : ℕ) (xs : List Located) → length (take n xs) ≤ n
short n xs = subst (λ z. z ≤ n) (sym (length-take n xs)) (min_left n (length xs))

abbrev zeros : ℕ → List Located
zeros n = replicate n (0, None)

same_length : (n : ℕ) → length (zeros n) ≤ n
same_length n = let e : length (zeros n) ≡ n = length-replicate n (0, None) in omega (arith, e)

pub bytes_most : (blocks : PartitionBlocks) (d : LongAd) → length (extent_bytes blocks d) ≤ d.length
bytes_most blocks d = go (nat_eq d.kind 0)
  where
    go : (b : Bool) → length (cond b (take d.length (extent_blocks blocks d)) (replicate d.length (0, None))) ≤ d.length
    go true = short d.length (extent_blocks blocks d)
    go false = same_length d.length

-- the recorded blocks of an extent that hold a byte of the body are there
abbrev AreThere : PartitionBlocks → ℕ → ℕ → LongAd → Type 0
AreThere blocks c size d = d.kind ≡ 0 → (j : ℕ) → 2048 * j < d.length → c + 2048 * j < size → (bytes : Bytes) × (blocks.at d.reference (d.block + j) ≡ Some bytes)

whole_length : (d : LongAd) → d.kind ≡ 0 → (in_whole_blocks d).length ≡ 2048 * blocks_in d.length
whole_length d k = ap (λ n. cond (nat_eq n 3) d.length (2048 * blocks_in d.length)) k

there_counted : (blocks : PartitionBlocks) (c size : ℕ) (b : Bool) (d : LongAd) → AreThere blocks c size d → AreThere blocks c size (as_counted b d)
there_counted blocks c size false d h = h
there_counted blocks c size true d h = λ k j l m. h k j (let e : (in_whole_blocks d).length ≡ 2048 * blocks_in d.length = whole_length d k in inside j (in_whole_blocks d).length d.length e l) m
  where
    inside : (j n l : ℕ) → n ≡ 2048 * blocks_in l → 2048 * j < n → 2048 * j < l
    inside j n l e p = omega (arith, e, p)

there_recorded : (blocks : PartitionBlocks) (c size : ℕ) (b : Bool) (d : LongAd) → AreThere blocks c size (as_counted b d) → AreThere blocks c size d
there_recorded blocks c size false d h = h
there_recorded blocks c size true d h = λ k j l m. h k j (let e : (in_whole_blocks d).length ≡ 2048 * blocks_in d.length = whole_length d k in inside j (in_whole_blocks d).length d.length e l) m
  where
    inside : (j n l : ℕ) → n ≡ 2048 * blocks_in l → 2048 * j < l → 2048 * j < n
    inside j n l e p = omega (arith, e, p)

-- before another descriptor one is as it is recorded
same_before : (t : Bool) (d : LongAd) (ds : List LongAd) → (ds ≡ []) ⊎ (as_counted (t && none ds) d ≡ d)
same_before t d [] = inl refl
same_before t d (a ∷ ds) = inr (go t)
  where
    go : (t : Bool) → as_counted (t && false) d ≡ d
    go true = refl
    go false = refl

kept_empty : (t : Bool) (ds : List LongAd) → filter is_other ds ≡ [] → filter is_other (marked t ds) ≡ []
kept_empty t [] e = refl
kept_empty t (d ∷ ds) e = go (is_other d) refl (kept_empty t ds)
  where
    go : (b : Bool) → is_other d ≡ b → (filter is_other ds ≡ [] → filter is_other (marked t ds) ≡ []) → filter is_other (marked t (d ∷ ds)) ≡ []
    go true q ih = absurd (let z : d ∷ filter is_other ds ≡ [] = sym (ap (λ b. cond b (d ∷ filter is_other ds) (filter is_other ds)) q) ∙ e in let x : ⊥ = cc in x)
    go false q ih = left_three t d ds q ∙ ih (sym (ap (λ b. cond b (d ∷ filter is_other ds) (filter is_other ds)) q) ∙ e)

module _ (blocks : PartitionBlocks) (size : ℕ) (t : Bool) where
  abbrev counted_bytes : List LongAd → List Located
  counted_bytes ds = flat_map (extent_bytes blocks) (filter is_other (marked t ds))

  abbrev SoundAsCounted : List LongAd → Type 0
  SoundAsCounted ds = (c : ℕ) → standard.AreExtentsOf blocks c size (filter is_other ds) → size - c ≤ length (counted_bytes ds) → AreExtentsOf blocks c size (filter is_other (marked t ds))

  sound_as_counted : (ds : List LongAd) → SoundAsCounted ds
  sound_as_counted [] c s e = tt
  sound_as_counted (d ∷ ds) c s e = go (is_other d) refl (sound_as_counted ds)
    where
      x : LongAd
      x = as_counted (t && none ds) d

      go : (b : Bool) → is_other d ≡ b → SoundAsCounted ds → AreExtentsOf blocks c size (filter is_other (marked t (d ∷ ds)))
      go false q ih = subst (AreExtentsOf blocks c size) (sym (left_three t d ds q))
          (ih c (subst (standard.AreExtentsOf blocks c size) (ap (λ b. cond b (d ∷ filter is_other ds) (filter is_other ds)) q) s)
          (subst (λ z. size - c ≤ length (flat_map (extent_bytes blocks) z)) (left_three t d ds q) e))
      go true q ih = subst (AreExtentsOf blocks c size) (sym (kept_other t d ds q)) (record { there = there_counted blocks c size (t && none ds) d both.0.there; full = full (filter is_other (marked t ds)) refl }, rest (same_before t d ds))
        where
          both : standard.IsExtentOf blocks c size d (filter is_other ds) × standard.AreExtentsOf blocks (c + d.length) size (filter is_other ds)
          both = subst (standard.AreExtentsOf blocks c size) (ap (λ b. cond b (d ∷ filter is_other ds) (filter is_other ds)) q) s

          enough : size - c ≤ length (extent_bytes blocks x) + length (counted_bytes ds)
          enough = subst (λ z. size - c ≤ z) (length-append (extent_bytes blocks x) (counted_bytes ds)) (subst (λ z. size - c ≤ length (flat_map (extent_bytes blocks) z)) (kept_other t d ds q) e)

          most : length (extent_bytes blocks x) ≤ x.length
          most = bytes_most blocks x

          full : (ys : List LongAd) → filter is_other (marked t ds) ≡ ys → c + x.length < size → x.length % 2048 ≡ 0
          full [] k l = absurd (let z : length (counted_bytes ds) ≡ 0 = ap (λ w. length (flat_map (extent_bytes blocks) w)) k in let f : ⊥ = omega (arith, enough, most, z, l) in f)
          full (y ∷ ys) k l = by (same_before t d ds)
            where
              by : (ds ≡ []) ⊎ (x ≡ d) → x.length % 2048 ≡ 0
              by (inl n) = absurd (let z : [] ≡ y ∷ ys = ap (λ w. filter is_other (marked t w)) (sym n) ∙ k in let f : ⊥ = cc in f)
              by (inr same) = subst (λ w. w.length % 2048 ≡ 0) (sym same) (both.0.full (λ n. let z : [] ≡ y ∷ ys = sym (kept_empty t ds n) ∙ k in let f : ⊥ = cc in f) (subst (λ w. c + w.length < size) same l))

          rest : (ds ≡ []) ⊎ (x ≡ d) → AreExtentsOf blocks (c + x.length) size (filter is_other (marked t ds))
          rest (inl n) = subst (λ w. AreExtentsOf blocks (c + x.length) size (filter is_other (marked t w))) (sym n) tt
          rest (inr same) = subst (λ w. AreExtentsOf blocks (c + w.length) size (filter is_other (marked t ds))) (sym same)
              (ih (c + d.length) both.1 (let m : length (extent_bytes blocks d) ≤ d.length = bytes_most blocks d in
              let k : size - c ≤ length (extent_bytes blocks d) + length (counted_bytes ds) = subst (λ w. size - c ≤ length (extent_bytes blocks w) + length (counted_bytes ds)) same enough in omega (arith, m, k)))

  abbrev SoundByStandard : List LongAd → Type 0
  SoundByStandard ds = (c : ℕ) → AreExtentsOf blocks c size (filter is_other (marked t ds)) → standard.AreExtentsOf blocks c size (filter is_other ds)

  sound_by_standard : (ds : List LongAd) → SoundByStandard ds
  sound_by_standard [] c s = tt
  sound_by_standard (d ∷ ds) c s = go (is_other d) refl (sound_by_standard ds)
    where
      x : LongAd
      x = as_counted (t && none ds) d

      go : (b : Bool) → is_other d ≡ b → SoundByStandard ds → standard.AreExtentsOf blocks c size (filter is_other (d ∷ ds))
      go false q ih = subst (standard.AreExtentsOf blocks c size) (sym (ap (λ b. cond b (d ∷ filter is_other ds) (filter is_other ds)) q)) (ih c (subst (AreExtentsOf blocks c size) (left_three t d ds q) s))
      go true q ih = subst (standard.AreExtentsOf blocks c size) (sym (ap (λ b. cond b (d ∷ filter is_other ds) (filter is_other ds)) q))
          (record { there = there_recorded blocks c size (t && none ds) d both.0.there; full = full (same_before t d ds) }, rest (same_before t d ds))
        where
          both : IsExtentOf blocks c size x × AreExtentsOf blocks (c + x.length) size (filter is_other (marked t ds))
          both = subst (AreExtentsOf blocks c size) (kept_other t d ds q) s

          full : (ds ≡ []) ⊎ (x ≡ d) → filter is_other ds ≢ [] → c + d.length < size → d.length % 2048 ≡ 0
          full (inl n) some l = absurd (some (ap (filter is_other) n))
          full (inr same) some l = subst (λ w. w.length % 2048 ≡ 0) same (both.0.full (subst (λ w. c + w.length < size) (sym same) l))

          rest : (ds ≡ []) ⊎ (x ≡ d) → standard.AreExtentsOf blocks (c + d.length) size (filter is_other ds)
          rest (inl n) = subst (λ w. standard.AreExtentsOf blocks (c + d.length) size (filter is_other w)) (sym n) tt
          rest (inr same) = ih (c + d.length) (subst (λ w. AreExtentsOf blocks (c + w.length) size (filter is_other (marked t ds))) same both.1)

-- ---- bodies
extents_as_counted : (blocks : PartitionBlocks) → BlocksFit blocks → (r : ℕ) (e : EntryFields) (body : List Located) → standard.IsExtentsBody blocks r e body → IsExtentsBody blocks r e body
extents_as_counted blocks fit r e body x = go (listed_as_counted blocks e.form r e.area x.followed x.descriptors x.listed)
  where
    t : Bool
    t = takes_tail blocks.profile

    counted_are : flat_map (extent_bytes blocks) (filter is_other (marked t (up_to_end x.descriptors))) ≡ x.bytes
    counted_are = all_bytes blocks fit t (up_to_end x.descriptors) ∙ sym x.together

    enough : e.size - 0 ≤ length (flat_map (extent_bytes blocks) (filter is_other (marked t (up_to_end x.descriptors))))
    enough = let k : e.size ≤ length x.bytes = x.enough in let l : length (flat_map (extent_bytes blocks) (filter is_other (marked t (up_to_end x.descriptors)))) ≡ length x.bytes = ap length counted_are in omega (arith, k, l)

    go : AsCounted blocks e.form r e.area x.followed x.descriptors → IsExtentsBody blocks r e body
    go (os, joined, same) = record {
      followed = x.followed;
      extents = os;
      joined = joined;
      limit = x.limit;
      sound = subst (AreExtentsOf blocks 0 e.size) (sym same) (sound_as_counted blocks e.size t (up_to_end x.descriptors) 0 x.sound enough);
      bytes = x.bytes;
      together = sym (ap (flat_map (extent_bytes blocks)) same ∙ counted_are);
      enough = x.enough;
      is = x.is;
    }

extents_by_standard : (blocks : PartitionBlocks) → BlocksFit blocks → (r : ℕ) (e : EntryFields) (body : List Located) → IsExtentsBody blocks r e body → standard.IsExtentsBody blocks r e body
extents_by_standard blocks fit r e body x = go (joined_by_standard blocks e.form r e.area x.followed x.extents x.joined)
  where
    t : Bool
    t = takes_tail blocks.profile

    go : ByStandard blocks e.form r e.area x.followed x.extents → standard.IsExtentsBody blocks r e body
    go (ls, listed, same) = record {
      followed = x.followed;
      descriptors = ls;
      listed = listed;
      limit = x.limit;
      sound = sound_by_standard blocks e.size t (up_to_end ls) 0 (subst (AreExtentsOf blocks 0 e.size) same x.sound);
      bytes = x.bytes;
      together = x.together ∙ ap (flat_map (extent_bytes blocks)) same ∙ all_bytes blocks fit t (up_to_end ls);
      enough = x.enough;
      is = x.is;
    }

pub body_as_counted : (blocks : PartitionBlocks) → BlocksFit blocks → (r b : ℕ) (e : EntryFields) (body : List Located) → standard.IsBodyOf blocks r b e body → IsBodyOf blocks r b e body
body_as_counted blocks fit r b e body = go (nat_eq e.form 3)
  where
    go : (x : Bool) → cond x (IsEmbeddedBody b e body) (standard.IsExtentsBody blocks r e body) → cond x (IsEmbeddedBody b e body) (IsExtentsBody blocks r e body)
    go true h = h
    go false h = extents_as_counted blocks fit r e body h

pub body_by_standard : (blocks : PartitionBlocks) → BlocksFit blocks → (r b : ℕ) (e : EntryFields) (body : List Located) → IsBodyOf blocks r b e body → standard.IsBodyOf blocks r b e body
body_by_standard blocks fit r b e body = go (nat_eq e.form 3)
  where
    go : (x : Bool) → cond x (IsEmbeddedBody b e body) (IsExtentsBody blocks r e body) → cond x (IsEmbeddedBody b e body) (standard.IsExtentsBody blocks r e body)
    go true h = h
    go false h = extents_by_standard blocks fit r e body h
