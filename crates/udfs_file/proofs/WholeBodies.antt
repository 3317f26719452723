-- Over a complete partition a body without a fault is the one that the standard reads.
use Rattle.std.proofs.Common.{◌≡◌, ◌≢◌, refl, sym, ◌∙◌, ap, subst, inl, inr, ◌⊎◌, ℕ, ◌+◌, ◌-◌, ◌<◌, ◌≤◌, min, Bool, true, false, not, List, [], ◌∷◌, ◌++◌, length, take, map, cond, ◌&&◌, arith, Option, Some, None, nat_eq, nat_le, nat_lt, add-zero, is_none, ◌||◌}
use Rattle.std.proofs.lemmas.Bool.{eqb-true, leb-true}
use Rattle.std.specs.Prelude.{zero, suc, flat_map, take_while, option_map, ◌%◌}
use Rattle.std.proofs.lemmas.List.{append-nil, length-append, map-append, take-append-le, take_all}
use Rattle.std.proofs.lemmas.List.Sums.{take_while-cons}
use Rattle.std.proofs.Math.Seq.{take-append-add}
use Rattle.udfs_volume.specs.Sequence.{Bytes}
use Rattle.udfs_lattice.specs.declared.facts.Fact.TheVariants.{Known}
use Rattle.udfs_tag.specs.declared.layouts.LongAd.{LongAd}
use Rattle.udfs_tag.specs.Fields.{part, uint32_at}
use Rattle.udfs_tag.specs.Tags.{is_valid}
use Rattle.udfs_space.specs.Places.{View}
use Rattle.udfs_volume.specs.Profiles.{takes_tail}
use Rattle.udfs_file.specs.Entries.{EntryFields, descriptor_size}
use Rattle.udfs_file.specs.Bodies.{Next, no_more, area_at, broken, Descriptors, covers, cells_in, continuation_fault, next_of, next_if, next_area, next_descriptor, up_to_next, descriptors_in, joined, no_descriptors, chain, allocation_descriptors, extent_cells, cells, faulty_body, ended_body, extents_body, extents_body_by, embedded_body, body}
use Rattle.udfs_file.specs.declared.cells.Cell.{Cell}
use Rattle.udfs_file.specs.declared.cells.Cell.TheVariants.{Byte}
use Rattle.udfs_tag.specs.Faults.{first_fault}
use Rattle.udfs_file.specs.Standard.{PartitionBlocks, Located, located, extent_bytes, up_to_end, IsOneBlock, IsExtentAt, IsEmbeddedBody}
use Rattle.udfs_file.proofs.CountedBodies.{extents_in, AreExtentsOf, IsJoined, IsExtentsBody, IsBodyOf}
use Rattle.udfs_file.proofs.StandardTails.{blocks_fit, body_by_standard, body_as_counted}
use Rattle.udfs_file.specs.Complete.{IsComplete, as_cell, as_cells, BodyLaw}
use Rattle.udfs_file.specs.declared.faults.NodeFault.{NodeFault}
use Rattle.udfs_file.specs.declared.faults.NodeFault.TheVariants.{Short, Chain, Range, Reference}
use Rattle.udfs_file.proofs.BodyFrom.{from, le_or_lt, body-from}
use Rattle.udfs_file.proofs.Parts.{cells-same, no_cells, from-done, from-end, Taken, taken-inv, length-extent}
use Rattle.udfs_file.proofs.ChainFits.{is_other, up-cons, next-cons, onto, joined-cons}
use Rattle.udfs_file.proofs.WholeExtents.{ExtentIs, extent_is}
use Rattle.udfs_file.proofs.Tails.{counted_body}
use Rattle.udfs_file.proofs.Joins.{only_body}

-- the standard's joined extents, of these allocation_descriptors in place of an area's
abbrev pub IsJoinedBy : PartitionBlocks → ℕ → ℕ → List LongAd → List Bytes → List LongAd → Type 0
IsJoinedBy blocks form r ds [] xs = xs ≡ take_while is_other ds
IsJoinedBy blocks form r ds (bytes ∷ more) xs = (d : LongAd) × (later : List LongAd)
    × (next_descriptor ds ≡ Some d) × IsOneBlock d × (blocks.at d.reference d.block ≡ Some bytes) × IsExtentAt form d.block bytes
    × IsJoined blocks form r (part bytes 24 (uint32_at bytes 20)) more later
    × (xs ≡ take_while is_other ds ++ later)

pub joined_by : (blocks : PartitionBlocks) (form r : ℕ) (area : Bytes) (f : List Bytes) (xs : List LongAd) → IsJoinedBy blocks form r (descriptors_in (takes_tail blocks.profile) form r area) f xs
    → IsJoined blocks form r area f xs
joined_by blocks form r area [] xs h = h
joined_by blocks form r area (b ∷ f) xs h = h

-- one more extent
joined_more : (blocks : PartitionBlocks) (form r : ℕ) (d : LongAd) (ds : List LongAd) (f : List Bytes) (xs : List LongAd) → is_other d ≡ true
    → IsJoinedBy blocks form r ds f xs → IsJoinedBy blocks form r (d ∷ ds) f (d ∷ xs)
joined_more blocks form r d ds [] xs e h = ap (λ z. d ∷ z) h ∙ sym (take_while-cons is_other d ds ∙ ap (λ b. cond b (d ∷ take_while is_other ds) []) e)
joined_more blocks form r d ds (b ∷ f) xs e (a, later, n, o, k, v, j, x) = (
  a,
  later,
  next-cons d ds ∙ ap (λ b. cond b (next_descriptor ds) (Some d)) e ∙ n,
  o,
  k,
  v,
  j,
  ap (λ z. d ∷ z) x ∙ ap (λ z. z ++ later) (sym (take_while-cons is_other d ds ∙ ap (λ b. cond b (d ∷ take_while is_other ds) []) e)),
)

abbrev pub bytes_of : PartitionBlocks → List LongAd → List Located
bytes_of blocks xs = flat_map (extent_bytes blocks) (up_to_end xs)

-- The standard's reading from cell c on, with at most so many continuations.
record Reading (blocks : PartitionBlocks) (size most : ℕ) (joins : List Bytes → List LongAd → Type 0) (c : ℕ) (cs : List Cell) : Type 0 where
  followed : List Bytes
  extents : List LongAd
  joined : joins followed extents
  limit : length followed ≤ most
  sound : AreExtentsOf blocks c size (up_to_end extents)
  enough : size - c ≤ length (bytes_of blocks extents)
  same : cs ≡ as_cells (take (size - c) (bytes_of blocks extents))

none_left : (size c : ℕ) → size ≤ c → size - c ≡ 0
none_left size c h = omega arith

-- behind the end of the body nothing is asked of an extent
sound_behind : (blocks : PartitionBlocks) (c size : ℕ) (ds : List LongAd) → size ≤ c → AreExtentsOf blocks c size ds
sound_behind blocks c size [] h = tt
sound_behind blocks c size (d ∷ ds) h = (
  record { there = λ k j l q. absurd (let no : ⊥ = omega (arith, h, q) in no); full = λ l. absurd (let no : ⊥ = omega (arith, h, l) in no) },
  sound_behind blocks (c + d.length) size ds (omega (arith, h)),
)

nothing_below : (n : ℕ) → 0 ≤ n
nothing_below n = omega arith

-- where no cells are left
reading_done : (v : View) (blocks : PartitionBlocks) (size most : ℕ) (joins : List Bytes → List LongAd → Type 0) (behind : Next) (c : ℕ) (ds : List LongAd) (cs : List Cell) (xs : List LongAd)
    → joins [] xs → size ≤ c → from v size behind c ds ≡ cells cs → Reading blocks size most joins c cs
reading_done v blocks size most joins behind c ds cs xs j h e = record {
  followed = [];
  extents = xs;
  joined = j;
  limit = nothing_below most;
  sound = sound_behind blocks c size (up_to_end xs) h;
  enough = subst (λ z. z ≤ length (bytes_of blocks xs)) (sym (none_left size c h)) (omega arith);
  same = sym (cells-same [] cs (sym (from-done v size behind c ds h) ∙ e)) ∙ ap (λ z. as_cells (take z (bytes_of blocks xs))) (sym (none_left size c h));
}

-- where no test holds, a continuation is one block, and not one too many
third_none : (x y z is_last : Bool) → first_fault ((x, Reference) ∷ (y, Range) ∷ (z || is_last, Chain) ∷ []) ≡ None → (z ≡ false) × (is_last ≡ false)
third_none true y z is_last e = absurd (let n : ⊥ = cc in n)
third_none false true z is_last e = absurd (let n : ⊥ = cc in n)
third_none false false true is_last e = absurd (let n : ⊥ = cc in n)
third_none false false false true e = absurd (let n : ⊥ = cc in n)
third_none false false false false e = (refl, refl)

not_more : (n : ℕ) → nat_lt 2048 n ≡ false → n ≤ 2048
not_more n h = grind arith

-- What stands behind the allocation_descriptors of an area in a complete partition.
record IsFollowing (blocks : PartitionBlocks) (form : ℕ) (is_last : Bool) (d : LongAd) (x : Next) (bytes : Bytes) : Type 0 where
  is : x ≡ area_at (part bytes 24 (uint32_at bytes 20))
  given : blocks.at d.reference d.block ≡ Some bytes
  extent : IsExtentAt form d.block bytes
  long : nat_lt 2048 d.length ≡ false
  allowed : is_last ≡ false

data Then (blocks : PartitionBlocks) (form : ℕ) (is_last : Bool) (d : LongAd) (x : Next) : Type 0 where
  then_area : (bytes : Bytes) → IsFollowing blocks form is_last d x bytes → Then blocks form is_last d x
  then_broken : (f : NodeFault) → x ≡ broken f → Then blocks form is_last d x

then_in : (blocks : PartitionBlocks) (form n : ℕ) (is_last : Bool) (d : LongAd) (bytes : Bytes) → blocks.at d.reference d.block ≡ Some bytes → (nat_lt 2048 d.length ≡ false) × (is_last ≡ false)
    → Then blocks form is_last d (next_area form d.block n (Known bytes))
then_in blocks form n is_last d bytes k short =
    go (is_valid bytes d.block 258) refl (nat_le (24 + uint32_at bytes 20) 2048) refl (nat_eq (uint32_at bytes 20 % descriptor_size form) 0) refl
  where
    A : Bytes
    A = part bytes 24 (uint32_at bytes 20)

    go : (v : Bool) → is_valid bytes d.block 258 ≡ v → (x : Bool) → nat_le (24 + uint32_at bytes 20) 2048 ≡ x → (y : Bool) → nat_eq (uint32_at bytes 20 % descriptor_size form) 0 ≡ y
        → Then blocks form is_last d (cond (v && x && y) (area_at A) (broken Chain))
    go true e true p true q = then_area bytes (record {
      is = refl;
      given = k;
      extent = (e, leb-true (24 + uint32_at bytes 20) 2048 p, eqb-true (uint32_at bytes 20 % descriptor_size form) 0 q);
      long = short.0;
      allowed = short.1;
    })
    go true e true p false q = then_broken Chain refl
    go true e false p y q = then_broken Chain refl
    go false e x p y q = then_broken Chain refl

then_is : (all : View) (blocks : PartitionBlocks) → IsComplete all blocks → (form : ℕ) (is_last : Bool) (d : LongAd) → Then blocks form is_last d (next_of all form is_last (Some d))
then_is all blocks w form is_last d = go (continuation_fault all is_last d) refl (all.place d.reference d.block) refl
  where
    F : Option NodeFault → Option ℕ → Next
    F o x = next_if form d.block o (option_map (λ n. (n, all.blocks n)) x)

    to : (o : Option NodeFault) (x : Option ℕ) → continuation_fault all is_last d ≡ o → all.place d.reference d.block ≡ x → F o x ≡ next_of all form is_last (Some d)
    to o x a b = λ i. F (sym a i) (sym b i)

    go : (o : Option NodeFault) → continuation_fault all is_last d ≡ o → (x : Option ℕ) → all.place d.reference d.block ≡ x → Then blocks form is_last d (next_of all form is_last (Some d))
    go (Some f) a x b = then_broken f (sym (to (Some f) x a b))
    go None a None b = then_broken Range (sym (to None None a b))
    go None a (Some n) b = let t : (bytes : Bytes) × (all.blocks n ≡ Known bytes) × (blocks.at d.reference d.block ≡ Some bytes) × (length bytes ≡ 2048) = w.there d.reference d.block n b in
        subst (Then blocks form is_last d) (ap (next_area form d.block n) (sym t.1) ∙ to None (Some n) a b)
        (then_in blocks form n is_last d t.0 t.2 (third_none (nat_le all.partitions d.reference) (is_none (all.place d.reference d.block)) (nat_lt 2048 d.length) is_last a))

-- a continuation that leads nowhere ends the body
no_body : {A : Type 0} (v : View) (size : ℕ) (x : Next) (c : ℕ) (d : LongAd) (cs : List Cell) → ((left : ℕ) (rest : List Cell) → ended_body left x [] ≢ cells rest) → covers d ≡ 0 → c < size
    → from v size x c (d ∷ []) ≡ cells cs → A
no_body v size x c d cs h zero_long l e = let t : Taken v size x c d [] cs = taken-inv v size x c d [] cs l e in
    absurd (h (size - (c + covers d)) t.then.rest (sym (from-end v size x (c + covers d) (subst (λ n. n < size) (sym (ap (λ n. c + n) zero_long ∙ add-zero c)) l)) ∙ t.then.is))

no_cells-broken : (f : NodeFault) (left : ℕ) (rest : List Cell) → ended_body left (broken f) [] ≢ cells rest
no_cells-broken f left rest e = no_cells f rest e

no_length : {A : Type 0} (xs : List A) → length xs ≡ 0 → xs ≡ []
no_length [] e = refl
no_length (x ∷ xs) e = absurd (let n : ⊥ = omega (arith, e) in n)

-- the cells of one extent, and those behind it
record Meet (l s : ℕ) (E B : List Located) : Type 0 where
  same : take s (E ++ B) ≡ take (min l s) E ++ take (s - l) B
  enough : s ≤ length (E ++ B)

meet : (l s : ℕ) (E B : List Located) → min l s ≤ length E → length E ≤ l → s - l ≤ length B → Meet l s E B
meet l s E B h k b = go (le_or_lt l s)
  where
    long : length (E ++ B) ≡ length E + length B
    long = length-append E B

    all_in : l ≤ s → min l s ≤ length E → l ≤ length E
    all_in q p = grind arith

    under : s < l → min l s ≤ length E → s ≤ length E
    under q p = grind arith

    first : l ≤ s → min l s ≡ l
    first q = grind arith

    second : s < l → min l s ≡ s
    second q = grind arith

    go : (l ≤ s) ⊎ (s < l) → Meet l s E B
    go (inl q) = let a : l ≤ length E = all_in q h in record {
      same = ap (λ z. take z (E ++ B)) (let g : s ≡ length E + (s - l) = omega (arith, a, k, q) in g) ∙ take-append-add E B (s - l)
          ∙ ap (λ z. z ++ take (s - l) B) (sym (ap (λ z. take z E) (first q) ∙ take_all l E k));
      enough = omega (arith, a, b, long, q);
    }
    go (inr q) = let a : s ≤ length E = under q h in record {
      same = take-append-le s E B a ∙ sym (append-nil (take s E)) ∙ (λ i. take (sym (second q) i) E ++ take (let g : 0 ≡ s - l = omega (arith, q) in g i) B);
      enough = omega (arith, a, long);
    }

pub is_three : (b : Bool) → not b ≡ false → b ≡ true
is_three true e = refl
is_three false e = absurd (let x : ⊥ = cc in x)

pub not_three : (b : Bool) → not b ≡ true → b ≡ false
not_three true e = absurd (let x : ⊥ = cc in x)
not_three false e = refl

abbrev pub area_chain : View → ℕ → Bool → (Bytes → Descriptors) → List LongAd → Descriptors
area_chain v form is_last later ds = joined (up_to_next ds) (next_of v form is_last (next_descriptor ds)) later

pub area-cons : (v : View) (form : ℕ) (is_last : Bool) (later : Bytes → Descriptors) (d : LongAd) (ds : List LongAd) (b : Bool) → is_other d ≡ b
    → area_chain v form is_last later (d ∷ ds) ≡ cond b (onto d (area_chain v form is_last later ds)) (joined (d ∷ []) (next_of v form is_last (Some d)) later)
area-cons v form is_last later d ds b e = (λ i. joined (up-cons d ds i) (next_of v form is_last (next-cons d ds i)) later) ∙ (λ i. by (e i)) ∙ go b
  where
    by : Bool → Descriptors
    by x = joined (cond x (d ∷ up_to_next ds) (d ∷ [])) (next_of v form is_last (cond x (next_descriptor ds) (Some d))) later

    go : (x : Bool) → by x ≡ cond x (onto d (area_chain v form is_last later ds)) (joined (d ∷ []) (next_of v form is_last (Some d)) later)
    go true = joined-cons d (up_to_next ds) (next_of v form is_last (next_descriptor ds)) later
    go false = refl

-- an extent, and the reading behind it
extent_reads : (all : View) (blocks : PartitionBlocks) → IsComplete all blocks → (form r size most c : ℕ) (behind : Next) (d : LongAd) (ds all_ds : List LongAd) (cs : List Cell) → is_other d ≡ true
    → (t : Taken all size behind c d all_ds cs) → Reading blocks size most (IsJoinedBy blocks form r ds) (c + covers d) t.then.rest → Reading blocks size most (IsJoinedBy blocks form r (d ∷ ds)) c cs
extent_reads all blocks w form r size most c behind d ds all_ds cs e t q = record {
  followed = q.followed;
  extents = d ∷ q.extents;
  joined = joined_more blocks form r d ds q.followed q.extents e q.joined;
  limit = q.limit;
  sound = subst (AreExtentsOf blocks c size) (sym ends) (x.sound, subst (λ n. AreExtentsOf blocks (c + n) size (up_to_end q.extents)) cover q.sound);
  enough = subst (λ z. size - c ≤ length z) (sym front) m.enough;
  same = sym t.then.joins ∙ (λ i. sym x.same i ++ (q.same ∙ ap (λ z. as_cells (take z B)) left) i)
      ∙ sym (map-append as_cell (take (cells_in size (c, d)) E) (take (size - c - covers d) B)) ∙ ap as_cells (sym m.same) ∙ ap (λ z. as_cells (take (size - c) z)) (sym front);
}
  where
    E : List Located
    E = extent_bytes blocks d

    B : List Located
    B = bytes_of blocks q.extents

    cover : covers d ≡ d.length
    cover = ap (λ b. cond b 0 d.length) (not_three (nat_eq d.kind 3) e)

    x : ExtentIs all blocks size c d
    x = extent_is all blocks w size c d e cover t.no_fault

    ends : up_to_end (d ∷ q.extents) ≡ d ∷ up_to_end q.extents
    ends = take_while-cons (λ a. nat_lt 0 a.length) d q.extents ∙ ap (λ b. cond b (d ∷ up_to_end q.extents) []) t.is_long

    left : size - (c + covers d) ≡ size - c - covers d
    left = omega arith

    front : bytes_of blocks (d ∷ q.extents) ≡ E ++ B
    front = ap (flat_map (extent_bytes blocks)) ends

    m : Meet (covers d) (size - c) E B
    m = meet (covers d) (size - c) E B x.enough (subst (λ z. length E ≤ z) (sym cover) x.most) (subst (λ z. z ≤ length B) left q.enough)

-- a continuation, and the reading in its area
next_reads : (all : View) (blocks : PartitionBlocks) → IsComplete all blocks → (form r size most below c : ℕ) (is_last : Bool) → (is_last ≡ false → suc below ≤ most) → (later : Bytes → Descriptors)
    → ((a : Bytes) (c : ℕ) (cs : List Cell) → from all size (later a).behind c (later a).all ≡ cells cs → Reading blocks size below (IsJoined blocks form r a) c cs)
    → (d : LongAd) (ds : List LongAd) (cs : List Cell) → is_other d ≡ false → c < size → (x : Next) → Then blocks form is_last d x
    → from all size (joined (d ∷ []) x later).behind c (joined (d ∷ []) x later).all ≡ cells cs → Reading blocks size most (IsJoinedBy blocks form r (d ∷ ds)) c cs
next_reads all blocks w form r size most below c is_last room later h d ds cs e l x th k = go th
  where
    three : nat_eq d.kind 3 ≡ true
    three = is_three (nat_eq d.kind 3) e

    short : covers d ≡ 0
    short = ap (λ b. cond b 0 d.length) three

    at : (y : Next) → x ≡ y → from all size (joined (d ∷ []) y later).behind c (joined (d ∷ []) y later).all ≡ cells cs
    at y q = subst (λ z. from all size (joined (d ∷ []) z later).behind c (joined (d ∷ []) z later).all ≡ cells cs) q k

    none : take_while is_other (d ∷ ds) ≡ []
    none = take_while-cons is_other d ds ∙ ap (λ b. cond b (d ∷ take_while is_other ds) []) e

    min_zero : (a : ℕ) → min 0 a ≡ 0
    min_zero a = grind arith

    empty : extent_cells all size (c, d) ≡ []
    empty = no_length (extent_cells all size (c, d)) (length-extent all size (c, d) ∙ ap (λ z. min z (size - c)) short ∙ min_zero (size - c))

    one_more : (a b n : ℕ) → a ≤ b → suc b ≤ n → suc a ≤ n
    one_more a b n p q = omega (arith, p, q)

    go : Then blocks form is_last d x → Reading blocks size most (IsJoinedBy blocks form r (d ∷ ds)) c cs
    go (then_broken f q) = no_body all size (broken f) c d cs (no_cells-broken f) short l (at (broken f) q)
    go (then_area bytes f) = record {
      followed = bytes ∷ read.followed;
      extents = read.extents;
      joined = (d, read.extents, next-cons d ds ∙ ap (λ b. cond b (next_descriptor ds) (Some d)) e, (leb-true 1 d.length t.is_long, not_more d.length f.long), f.given, f.extent, read.joined, ap (λ z. z ++ read.extents) (sym none));
      limit = one_more (length read.followed) below most read.limit (room f.allowed);
      sound = subst (λ z. AreExtentsOf blocks z size (up_to_end read.extents)) same_cell read.sound;
      enough = subst (λ z. size - z ≤ length (bytes_of blocks read.extents)) same_cell read.enough;
      same = sym t.then.joins ∙ ap (λ z. z ++ t.then.rest) empty ∙ read.same ∙ ap (λ z. as_cells (take (size - z) (bytes_of blocks read.extents))) same_cell;
    }
      where
        area : Bytes
        area = part bytes 24 (uint32_at bytes 20)

        t : Taken all size (later area).behind c d (later area).all cs
        t = taken-inv all size (later area).behind c d (later area).all cs l (at (area_at area) f.is)

        same_cell : c + covers d ≡ c
        same_cell = ap (λ n. c + n) short ∙ add-zero c

        read : Reading blocks size below (IsJoined blocks form r area) (c + covers d) t.then.rest
        read = h area (c + covers d) t.then.rest t.then.is

area_reads : (all : View) (blocks : PartitionBlocks) → IsComplete all blocks → (form r size most below : ℕ) (is_last : Bool) → (is_last ≡ false → suc below ≤ most) → (later : Bytes → Descriptors)
    → ((a : Bytes) (c : ℕ) (cs : List Cell) → from all size (later a).behind c (later a).all ≡ cells cs → Reading blocks size below (IsJoined blocks form r a) c cs)
    → (ds : List LongAd) (c : ℕ) (cs : List Cell) → from all size (area_chain all form is_last later ds).behind c (area_chain all form is_last later ds).all ≡ cells cs
    → Reading blocks size most (IsJoinedBy blocks form r ds) c cs
area_reads all blocks w form r size most below is_last room later h [] c cs e = go (le_or_lt size c)
  where
    go : (size ≤ c) ⊎ (c < size) → Reading blocks size most (IsJoinedBy blocks form r []) c cs
    go (inl l) = reading_done all blocks size most (IsJoinedBy blocks form r []) no_more c [] cs [] refl l e
    go (inr l) = no_cells Short cs (sym (from-end all size no_more c l) ∙ e)
area_reads all blocks w form r size most below is_last room later h (d ∷ ds) c cs e = go (le_or_lt size c) (is_other d) refl (area_reads all blocks w form r size most below is_last room later h ds (c + covers d))
  where
    J : List LongAd → Descriptors
    J x = area_chain all form is_last later x

    to : (D : Descriptors) → J (d ∷ ds) ≡ D → from all size D.behind c D.all ≡ cells cs
    to D q = subst (λ z. from all size z.behind c z.all ≡ cells cs) q e

    go : (size ≤ c) ⊎ (c < size) → (b : Bool) → is_other d ≡ b
        → ((rest : List Cell) → from all size (J ds).behind (c + covers d) (J ds).all ≡ cells rest → Reading blocks size most (IsJoinedBy blocks form r ds) (c + covers d) rest)
        → Reading blocks size most (IsJoinedBy blocks form r (d ∷ ds)) c cs
    go (inl l) b q ih = reading_done all blocks size most (IsJoinedBy blocks form r (d ∷ ds)) (J (d ∷ ds)).behind c (J (d ∷ ds)).all cs (take_while is_other (d ∷ ds)) refl l e
    go (inr l) true q ih = let t : Taken all size (J ds).behind c d (J ds).all cs = taken-inv all size (J ds).behind c d (J ds).all cs l (to (onto d (J ds)) (area-cons all form is_last later d ds true q)) in
        extent_reads all blocks w form r size most c (J ds).behind d ds (J ds).all cs q t (ih t.then.rest t.then.is)
    go (inr l) false q ih = next_reads all blocks w form r size most below c is_last room later h d ds cs q l (next_of all form is_last (Some d)) (then_is all blocks w form is_last d)
        (to (joined (d ∷ []) (next_of all form is_last (Some d)) later) (area-cons all form is_last later d ds false q))

of_area : (blocks : PartitionBlocks) (form r size most : ℕ) (area : Bytes) (c : ℕ) (cs : List Cell) → Reading blocks size most (IsJoinedBy blocks form r (descriptors_in (takes_tail blocks.profile) form r area)) c cs
    → Reading blocks size most (IsJoined blocks form r area) c cs
of_area blocks form r size most area c cs q = record { followed = q.followed; extents = q.extents; joined = joined_by blocks form r area q.followed q.extents q.joined; limit = q.limit; sound = q.sound; enough = q.enough; same = q.same }

no_less : (n : ℕ) → n ≤ n
no_less n = omega arith

chain_reads : (all : View) (blocks : PartitionBlocks) → IsComplete all blocks → (form r size left : ℕ) (area : Bytes) (c : ℕ) (cs : List Cell)
    → from all size (chain (takes_tail blocks.profile) all form r left area).behind c (chain (takes_tail blocks.profile) all form r left area).all ≡ cells cs → Reading blocks size left (IsJoined blocks form r area) c cs
chain_reads all blocks w form r size zero area c cs e = of_area blocks form r size 0 area c cs
    (area_reads all blocks w form r size 0 0 true (λ t. absurd (let no : ⊥ = cc in no)) (λ a. no_descriptors) nothing_more (descriptors_in (takes_tail blocks.profile) form r area) c cs e)
  where
    nothing_more : (a : Bytes) (c : ℕ) (cs : List Cell) → from all size no_more c [] ≡ cells cs → Reading blocks size 0 (IsJoined blocks form r a) c cs
    nothing_more a c cs e = go (le_or_lt size c)
      where
        go : (size ≤ c) ⊎ (c < size) → Reading blocks size 0 (IsJoined blocks form r a) c cs
        go (inl l) = reading_done all blocks size 0 (IsJoined blocks form r a) no_more c [] cs (extents_in (takes_tail blocks.profile) form r a) refl l e
        go (inr l) = no_cells Short cs (sym (from-end all size no_more c l) ∙ e)
chain_reads all blocks w form r size (suc left) area c cs e = of_area blocks form r size (suc left) area c cs
    (area_reads all blocks w form r size (suc left) left false (λ t. no_less (suc left)) (λ a. chain (takes_tail blocks.profile) all form r left a) (λ a. chain_reads all blocks w form r size left a) (descriptors_in (takes_tail blocks.profile) form r area) c cs e)

-- the body is read
record Found (blocks : PartitionBlocks) (cs : List Cell) (reads : List Located → Type 0) : Type 0 where
  whole : List Located
  is : cs ≡ as_cells whole
  read : reads whole

extents_read : (all : View) (blocks : PartitionBlocks) → IsComplete all blocks → (r : ℕ) (entry : EntryFields) (cs : List Cell)
    → extents_body all entry.size (allocation_descriptors all r entry) ≡ cells cs → Found blocks cs (IsExtentsBody blocks r entry)
unfolding allocation_descriptors
extents_read all blocks w r entry cs e = record {
  whole = take entry.size (bytes_of blocks q.extents);
  is = q.same ∙ ap (λ z. as_cells (take z (bytes_of blocks q.extents))) whole_size;
  read = record {
    followed = q.followed;
    extents = q.extents;
    joined = q.joined;
    limit = q.limit;
    sound = q.sound;
    bytes = bytes_of blocks q.extents;
    together = refl;
    enough = subst (λ z. z ≤ length (bytes_of blocks q.extents)) whole_size q.enough;
    is = refl;
  };
}
  where
    whole_size : entry.size - 0 ≡ entry.size
    whole_size = omega arith

    q : Reading blocks entry.size 256 (IsJoined blocks entry.form r entry.area) 0 cs
    q = chain_reads all blocks w entry.form r entry.size 256 entry.area 0 cs
        (ap (λ t. from all entry.size (chain t all entry.form r 256 entry.area).behind 0 (chain t all entry.form r 256 entry.area).all) (ap takes_tail w.profile) ∙ sym (body-from all entry.size (allocation_descriptors all r entry)) ∙ e)

le_is : (a b : ℕ) → nat_le a b ≡ true → a ≤ b
le_is a b e = grind arith

cells_embedded : (b : ℕ) (xs : Bytes) → map (λ x. Byte x (Some b)) xs ≡ as_cells (located b xs)
cells_embedded b [] = refl
cells_embedded b (x ∷ xs) = ap (λ z. Byte x (Some b) ∷ z) (cells_embedded b xs)

embedded_read : (blocks : PartitionBlocks) (b : ℕ) (entry : EntryFields) (cs : List Cell) → embedded_body b entry ≡ cells cs → Found blocks cs (IsEmbeddedBody b entry)
embedded_read blocks b entry cs e = go (nat_le entry.size (length entry.area)) refl e
  where
    front : List Cell
    front = map (λ x. Byte x (Some b)) (take entry.size entry.area)

    go : (x : Bool) → nat_le entry.size (length entry.area) ≡ x → cond x (cells front) (faulty_body Short) ≡ cells cs → Found blocks cs (IsEmbeddedBody b entry)
    go true q k = record {
      whole = located b (take entry.size entry.area);
      is = sym (cells-same front cs k) ∙ cells_embedded b (take entry.size entry.area);
      read = record { enough = le_is entry.size (length entry.area) q; is = refl };
    }
    go false q k = no_cells Short cs k

body_read : (all : View) (blocks : PartitionBlocks) → IsComplete all blocks → (r b : ℕ) (entry : EntryFields) (cs : List Cell) → body all r b entry ≡ cells cs → Found blocks cs (IsBodyOf blocks r b entry)
unfolding body
body_read all blocks w r b entry cs e = go (nat_eq entry.form 3) e
  where
    go : (x : Bool) → cond x (embedded_body b entry) (extents_body_by all entry.form r entry.size entry.area) ≡ cells cs
        → Found blocks cs (λ whole. cond x (IsEmbeddedBody b entry whole) (IsExtentsBody blocks r entry whole))
    go true k = embedded_read blocks b entry cs k
    go false k = extents_read all blocks w r entry cs (counted_body all r entry cs k)

pub body_law : BodyLaw
body_law all blocks w r b entry cs e = let f : Found blocks cs (IsBodyOf blocks r b entry) = body_read all blocks w r b entry cs e in
    record {
      whole = f.whole;
      is = f.is;
      reads = body_by_standard blocks (blocks_fit all blocks w) r b entry f.whole f.read;
      only = λ other q. only_body blocks r b entry f.whole other f.read (body_as_counted blocks (blocks_fit all blocks w) r b entry other q);
    }
