-- The cells of an extent over a complete partition are the bytes that the standard reads there.
use Rattle.std.proofs.Common.{◌≡◌, refl, sym, ◌∙◌, ap, subst, inl, inr, ◌⊎◌, ℕ, ◌+◌, ◌-◌, ◌*◌, ◌/◌, ◌%◌, ◌<◌, ◌≤◌, min, Bool, true, false, not, List, [], ◌∷◌, ◌++◌, length, take, map, cond, ◌&&◌, ◌||◌, arith, Option, Some, None, nat_eq, nat_le, nat_lt, replicate, add-zero, zero-add}
use Rattle.std.specs.Prelude.{zero, suc, flat_map, option_map, is_none, slice_index, get_or}
use Rattle.std.specs.List.{range_with_len, list_any}
use Rattle.std.proofs.lemmas.List.{length-append, length-map, length-take, length-take-le, length-replicate, take-append-le, take-take, take_all, take-replicate, get_or-map, get_or-take, map-append}
use Rattle.std.proofs.lemmas.List.FromFn.{fill_by_all}
use Rattle.std.proofs.Math.Seq.{take-append-add}
use Rattle.udfs_volume.specs.Sequence.{Bytes}
use Rattle.udfs_lattice.specs.declared.facts.Fact.TheVariants.{Known}
use Rattle.udfs_tag.specs.declared.layouts.LongAd.{LongAd}
use Rattle.udfs_tag.specs.Faults.{first_fault}
use Rattle.udfs_volume.specs.Layout.{blocks_in}
use Rattle.udfs_space.specs.Places.{View}
use Rattle.udfs_space.specs.Places.{block_at}
use Rattle.udfs_file.specs.Bodies.{covers, cells_in, extent_fault, cell_in, cell_at, recorded_cell, extent_cells}
use Rattle.udfs_file.specs.declared.cells.Cell.{Cell}
use Rattle.udfs_file.specs.declared.cells.Cell.TheVariants.{Byte, Gap}
use Rattle.udfs_file.specs.Standard.{PartitionBlocks, Located, located, block_bytes, extent_bytes}
use Rattle.udfs_file.proofs.CountedBodies.{IsExtentOf}
use Rattle.udfs_file.specs.Complete.{IsComplete, as_cell, as_cells}
use Rattle.udfs_file.specs.declared.faults.NodeFault.TheVariants.{Reference, Range, Odd}
use Rattle.std.proofs.lemmas.Bool.{eqb-true}
use Rattle.udfs_file.proofs.BodyFrom.{le_or_lt, is_lt}
use Rattle.udfs_file.proofs.ExtentLemmas.{last_of}

-- A block that has a place.
pub record IsHeld (all : View) (blocks : PartitionBlocks) (r b : ℕ) : Type 0 where
  pub at : ℕ
  pub place : all.place r b ≡ Some at
  pub bytes : Bytes
  pub known : all.blocks at ≡ Known bytes
  pub given : blocks.at r b ≡ Some bytes
  pub size : length bytes ≡ 2048

pub held : (all : View) (blocks : PartitionBlocks) → IsComplete all blocks → (r b n : ℕ) → all.place r b ≡ Some n → IsHeld all blocks r b
held all blocks w r b n e = let t : (bytes : Bytes) × (all.blocks n ≡ Known bytes) × (blocks.at r b ≡ Some bytes) × (length bytes ≡ 2048) = w.there r b n e in
    record { at = n; place = e; bytes = t.0; known = t.1; given = t.2; size = t.3 }

abbrev cell_from : View → ℕ → ℕ → ℕ → Cell
cell_from v r s i = let b = s + i / 2048 in cell_at b (i % 2048) (block_at v r b)

cell_held : (all : View) (blocks : PartitionBlocks) (r b i : ℕ) (h : IsHeld all blocks r b) → cell_at b i (block_at all r b) ≡ Byte (slice_index h.bytes i) (Some b)
cell_held all blocks r b i h = ap (λ o. cell_at b i (option_map (λ n. (n, all.blocks n)) o)) h.place ∙ ap (cell_in b h.at i) h.known

cells_located : (m s : ℕ) (bytes : Bytes) → as_cells (take m (located s bytes)) ≡ map (λ x. Byte x (Some s)) (take m bytes)
cells_located zero s bytes = refl
cells_located (suc m) s [] = refl
cells_located (suc m) s (x ∷ xs) = ap (λ z. Byte x (Some s) ∷ z) (cells_located m s xs)

-- the cells in the first block
in_block : (all : View) (blocks : PartitionBlocks) (r s m : ℕ) → m ≤ 2048 → (h : IsHeld all blocks r s)
    → as_cells (take m (located s h.bytes)) ≡ map (cell_from all r s) (range_with_len 0 m)
in_block all blocks r s m l h = cells_located m s h.bytes ∙ fill_by_all (cell_from all r s) (map f (take m h.bytes)) m (Gap 0)
    (length-map (take m h.bytes) f ∙ long) each
  where
    f : ℕ → Cell
    f x = Byte x (Some s)

    long : length (take m h.bytes) ≡ m
    long = length-take-le m h.bytes (subst (λ n. m ≤ n) (sym h.size) l)

    each : (k : ℕ) → k < m → get_or (map f (take m h.bytes)) k (Gap 0) ≡ cell_from all r s k
    each k q = get_or-map f (take m h.bytes) k 0 (Gap 0) (subst (λ n. k < n) (sym long) q)
        ∙ ap f (get_or-take m h.bytes k 0 q)
        ∙ sym (cell_held all blocks r s k h)
        ∙ (λ i. cell_at (here i) (there i) (block_at all r (here i)))
      where
        here : s ≡ s + k / 2048
        here = omega (arith, q, l)

        there : k ≡ k % 2048
        there = omega (arith, q, l)

pub range_split : {X : Type 0} (f : ℕ → X) (a n k : ℕ) → map f (range_with_len a (n + k)) ≡ map f (range_with_len a n) ++ map f (range_with_len (a + n) k)
range_split f a zero k = λ i. map f (range_with_len (sym (add-zero a) i) (zero-add k i))
range_split f a (suc n) k = ap (λ z. map f (range_with_len a z)) (let e : suc n + k ≡ suc (n + k) = omega arith in e)
    ∙ ap (λ z. f a ∷ z) (range_split f (a + 1) n k ∙ ap (λ z. map f (range_with_len (a + 1) n) ++ map f (range_with_len z k)) (let e : a + 1 + n ≡ a + suc n = omega arith in e))

pub range_shift : {X : Type 0} (f g : ℕ → X) (a b n : ℕ) → ((i : ℕ) → f (a + i) ≡ g (b + i)) → map f (range_with_len a n) ≡ map g (range_with_len b n)
range_shift f g a b zero h = refl
range_shift f g a b (suc n) h = λ i. first i ∷ range_shift f g (a + 1) (b + 1) n later i
  where
    first : f a ≡ g b
    first = ap f (sym (add-zero a)) ∙ h 0 ∙ ap g (add-zero b)

    later : (i : ℕ) → f (a + 1 + i) ≡ g (b + 1 + i)
    later i = ap f (let e : a + 1 + i ≡ a + (1 + i) = omega arith in e) ∙ h (1 + i) ∙ ap g (let e : b + (1 + i) ≡ b + 1 + i = omega arith in e)

abbrev blocks_from : PartitionBlocks → ℕ → ℕ → ℕ → List Located
blocks_from blocks r s n = flat_map (λ b. block_bytes b (blocks.at r b)) (range_with_len s n)

pub record FlatIs (all : View) (blocks : PartitionBlocks) (r s n m : ℕ) : Type 0 where
  pub same : as_cells (take m (blocks_from blocks r s n)) ≡ map (cell_from all r s) (range_with_len 0 m)
  pub enough : m ≤ length (blocks_from blocks r s n)

-- the cells go on in the next block
on_block : (all : View) (blocks : PartitionBlocks) (r s n m l : ℕ) → l ≡ 2048 → l < m → IsHeld all blocks r s → FlatIs all blocks r (s + 1) n (m - l)
    → FlatIs all blocks r s (suc n) m
on_block all blocks r s n m l e q h t = record { same = same; enough = enough }
  where
    B : List Located
    B = located s h.bytes

    R : List Located
    R = blocks_from blocks r (s + 1) n

    long : length B ≡ l
    long = length-map h.bytes (λ x. (x, Some s)) ∙ h.size ∙ sym e

    front : blocks_from blocks r s (suc n) ≡ B ++ R
    front = ap (λ o. block_bytes s o ++ R) h.given

    cut : take m (B ++ R) ≡ B ++ take (m - l) R
    cut = ap (λ z. take z (B ++ R)) (let g : m ≡ length B + (m - l) = omega (arith, long, q) in g) ∙ take-append-add B R (m - l)

    first : as_cells B ≡ map (cell_from all r s) (range_with_len 0 l)
    first = ap as_cells (sym (take_all l B (let g : length B ≤ l = omega (arith, long) in g))) ∙ in_block all blocks r s l (omega (arith, e)) h

    shift : map (cell_from all r (s + 1)) (range_with_len 0 (m - l)) ≡ map (cell_from all r s) (range_with_len (0 + l) (m - l))
    shift = range_shift (cell_from all r (s + 1)) (cell_from all r s) 0 (0 + l) (m - l) (λ i. λ j. cell_at (b i j) (o i j) (block_at all r (b i j)))
      where
        b : (i : ℕ) → s + 1 + (0 + i) / 2048 ≡ s + (0 + l + i) / 2048
        b i = omega (arith, e)

        o : (i : ℕ) → (0 + i) % 2048 ≡ (0 + l + i) % 2048
        o i = omega (arith, e)

    same : as_cells (take m (blocks_from blocks r s (suc n))) ≡ map (cell_from all r s) (range_with_len 0 m)
    same = ap (λ z. as_cells (take m z)) front ∙ ap as_cells cut ∙ map-append as_cell B (take (m - l) R)
        ∙ (λ i. first i ++ (t.same ∙ shift) i)
        ∙ sym (range_split (cell_from all r s) 0 l (m - l))
        ∙ ap (λ z. map (cell_from all r s) (range_with_len 0 z)) (let g : l + (m - l) ≡ m = omega (arith, q) in g)

    enough : m ≤ length (blocks_from blocks r s (suc n))
    enough = subst (λ z. m ≤ length z) (sym front) (let k : m - l ≤ length R = t.enough in
        let g : length (B ++ R) ≡ length B + length R = length-append B R in omega (arith, g, long, k))

end_block : (all : View) (blocks : PartitionBlocks) (r s n m : ℕ) → m ≤ 2048 → IsHeld all blocks r s → FlatIs all blocks r s (suc n) m
end_block all blocks r s n m l h = record {
  same = ap (λ z. as_cells (take m z)) front ∙ ap as_cells (take-append-le m B R (subst (λ z. m ≤ z) (sym long) l)) ∙ in_block all blocks r s m l h;
  enough = subst (λ z. m ≤ length z) (sym front) (let g : length (B ++ R) ≡ length B + length R = length-append B R in omega (arith, g, long, l));
}
  where
    B : List Located
    B = located s h.bytes

    R : List Located
    R = blocks_from blocks r (s + 1) n

    long : length B ≡ 2048
    long = length-map h.bytes (λ x. (x, Some s)) ∙ h.size

    front : blocks_from blocks r s (suc n) ≡ B ++ R
    front = ap (λ o. block_bytes s o ++ R) h.given

pub flat_is : (all : View) (blocks : PartitionBlocks) (r n s m : ℕ) → m ≤ 2048 * n → ((j : ℕ) → 2048 * j < m → IsHeld all blocks r (s + j)) → FlatIs all blocks r s n m
flat_is all blocks r n s zero h k = record { same = refl; enough = omega arith }
flat_is all blocks r zero s (suc m) h k = absurd (let x : ⊥ = omega (arith, h) in x)
flat_is all blocks r (suc n) s (suc m) h k = go (flat_is all blocks r n (s + 1) (suc m - 2048)) (le_or_lt (suc m) 2048)
  where
    here : IsHeld all blocks r s
    here = subst (IsHeld all blocks r) (add-zero s) (k 0 (omega arith))

    go : (suc m - 2048 ≤ 2048 * n → ((j : ℕ) → 2048 * j < suc m - 2048 → IsHeld all blocks r (s + 1 + j)) → FlatIs all blocks r (s + 1) n (suc m - 2048))
        → (suc m ≤ 2048) ⊎ (2048 < suc m) → FlatIs all blocks r s (suc n) (suc m)
    go ih (inl l) = end_block all blocks r s n (suc m) l here
    go ih (inr l) = on_block all blocks r s n (suc m) 2048 refl l here (ih (omega (arith, h)) next)
      where
        next : (j : ℕ) → 2048 * j < suc m - 2048 → IsHeld all blocks r (s + 1 + j)
        next j q = subst (IsHeld all blocks r) (let e : s + (1 + j) ≡ s + 1 + j = omega arith in e) (k (1 + j) (omega (arith, q)))

-- What an extent is that has no fault.
pub record ExtentIs (all : View) (blocks : PartitionBlocks) (size c : ℕ) (d : LongAd) : Type 0 where
  pub same : as_cells (take (cells_in size (c, d)) (extent_bytes blocks d)) ≡ extent_cells all size (c, d)
  pub enough : cells_in size (c, d) ≤ length (extent_bytes blocks d)
  pub most : length (extent_bytes blocks d) ≤ d.length
  pub sound : IsExtentOf blocks c size d

cells-replicate : (n : ℕ) → as_cells (replicate n (0, None)) ≡ replicate n (Byte 0 None)
cells-replicate zero = refl
cells-replicate (suc n) = ap (λ z. Byte 0 None ∷ z) (cells-replicate n)

any_false : (p : ℕ → Bool) (a n j : ℕ) → list_any p (range_with_len a n) ≡ false → j < n → p (a + j) ≡ false
any_false p a zero j e h = absurd (let x : ⊥ = omega (arith, h) in x)
any_false p a (suc n) j e h = go (p a) refl e j h (any_false p (a + 1) n)
  where
    go : (b : Bool) → p a ≡ b → (b || list_any p (range_with_len (a + 1) n)) ≡ false → (j : ℕ) → j < suc n
        → ((k : ℕ) → list_any p (range_with_len (a + 1) n) ≡ false → k < n → p (a + 1 + k) ≡ false) → p (a + j) ≡ false
    go true q e j h ih = absurd (let x : ⊥ = cc in x)
    go false q e zero h ih = ap p (add-zero a) ∙ q
    go false q e (suc j) h ih = ap p (let g : a + suc j ≡ a + 1 + j = omega arith in g) ∙ ih j e (omega (arith, h))

has_place : (o : Option ℕ) → is_none o ≡ false → (n : ℕ) × (o ≡ Some n)
has_place None e = absurd (let x : ⊥ = cc in x)
has_place (Some n) e = (n, refl)

second_clear : {A : Type 0} (a b : Bool) (x y : A) (more : List (Bool × A)) → first_fault ((a, x) ∷ (b, y) ∷ more) ≡ None → b ≡ false
second_clear true b x y more e = absurd (let z : ⊥ = cc in z)
second_clear false true x y more e = absurd (let z : ⊥ = cc in z)
second_clear false false x y more e = refl

third_clear : {A : Type 0} (a b c : Bool) (x y z : A) → first_fault ((a, x) ∷ (b, y) ∷ (c, z) ∷ []) ≡ None → c ≡ false
third_clear true b c x y z e = absurd (let n : ⊥ = cc in n)
third_clear false true c x y z e = absurd (let n : ⊥ = cc in n)
third_clear false false true x y z e = absurd (let n : ⊥ = cc in n)
third_clear false false false x y z e = refl

within_both : (a l s c : ℕ) → a < l → c + a < s → a < min l (s - c)
within_both a l s c p q = grind arith

pub extent_is : (all : View) (blocks : PartitionBlocks) → IsComplete all blocks → (size c : ℕ) (d : LongAd) → not (nat_eq d.kind 3) ≡ true → covers d ≡ d.length
    → extent_fault all size (c, d) ≡ None → ExtentIs all blocks size c d
extent_is all blocks w size c d other cover fault = go (nat_eq d.kind 0) refl
  where
    m : ℕ
    m = cells_in size (c, d)

    no_more : m ≤ d.length
    no_more = subst (λ z. min (covers d) (size - c) ≤ z) cover (let x : min (covers d) (size - c) ≤ covers d = grind arith in x)

    X : List Located
    X = blocks_from blocks d.reference d.block (blocks_in d.length)

    absent : ℕ → Bool
    absent j = is_none (all.place d.reference (d.block + j))

    place : nat_eq d.kind 0 ≡ true → list_any absent (range_with_len 0 (blocks_in m)) ≡ false
    place e = sym (ap (λ b. b && list_any absent (range_with_len 0 (blocks_in m))) e)
        ∙ second_clear (nat_eq d.kind 0 && nat_le all.partitions d.reference) (nat_eq d.kind 0 && list_any absent (range_with_len 0 (blocks_in m))) Reference Range
        ((not (nat_eq d.kind 3) && nat_lt (c + d.length) size && not (nat_eq (d.length % 2048) 0), Odd) ∷ []) fault

    each : nat_eq d.kind 0 ≡ true → (j : ℕ) → 2048 * j < m → IsHeld all blocks d.reference (d.block + j)
    each e j h = let p : (n : ℕ) × (all.place d.reference (d.block + j) ≡ Some n) = has_place (all.place d.reference (d.block + j))
        (ap absent (sym (zero-add j)) ∙ any_false absent 0 (blocks_in m) j (place e) (omega (arith, h))) in
        held all blocks w d.reference (d.block + j) p.0 p.1

    flat : nat_eq d.kind 0 ≡ true → FlatIs all blocks d.reference d.block (blocks_in d.length) m
    flat e = flat_is all blocks d.reference (blocks_in d.length) d.block m (omega (arith, no_more)) (each e)

    odd : Bool
    odd = not (nat_eq d.kind 3) && nat_lt (c + d.length) size && not (nat_eq (d.length % 2048) 0)

    sound : IsExtentOf blocks c size d
    sound = record {
      there = λ k j l q. let h : IsHeld all blocks d.reference (d.block + j) = each (ap (λ n. nat_eq n 0) k) j
          (subst (λ z. 2048 * j < min z (size - c)) (sym cover) (within_both (2048 * j) d.length size c l q)) in (h.bytes, h.given);
      full = λ l. eqb-true (d.length % 2048) 0 (last_of (not (nat_eq d.kind 3)) (nat_lt (c + d.length) size) (nat_eq (d.length % 2048) 0) other (is_lt (c + d.length) size l)
          (third_clear (nat_eq d.kind 0 && nat_le all.partitions d.reference) (nat_eq d.kind 0 && list_any absent (range_with_len 0 (blocks_in m))) odd Reference Range Odd fault));
    }

    to : (b : Bool) → List Located
    to b = cond b (take d.length X) (replicate d.length (0, None))

    cs : (b : Bool) → List Cell
    cs b = cond b (map (recorded_cell all d.reference d.block) (range_with_len 0 m)) (replicate m (Byte 0 None))

    back : (b : Bool) → nat_eq d.kind 0 ≡ b → as_cells (take m (to b)) ≡ cs b → m ≤ length (to b) → length (to b) ≤ d.length → ExtentIs all blocks size c d
    back b e x y z = record { same = (λ i. as_cells (take m (to (e i)))) ∙ x ∙ (λ i. cs (sym e i)); enough = subst (λ t. m ≤ length (to t)) (sym e) y; most = subst (λ t. length (to t) ≤ d.length) (sym e) z; sound = sound }

    go : (b : Bool) → nat_eq d.kind 0 ≡ b → ExtentIs all blocks size c d
    go true e = back true e (ap as_cells (take-take m d.length X no_more) ∙ (flat e).same)
        (let g : length (take d.length X) ≡ min d.length (length X) = length-take d.length X in let k : m ≤ length X = (flat e).enough in
        subst (λ z. m ≤ z) (sym g) (let q : m ≤ min d.length (length X) = least m d.length (length X) no_more k in q))
        (let g : length (take d.length X) ≡ min d.length (length X) = length-take d.length X in subst (λ z. z ≤ d.length) (sym g) (below d.length (length X)))
      where
        least : (a b c : ℕ) → a ≤ b → a ≤ c → a ≤ min b c
        least a b c p q = grind arith

        below : (a b : ℕ) → min a b ≤ a
        below a b = grind arith
    go false e = back false e (ap as_cells (take-replicate m d.length (0, None) no_more) ∙ cells-replicate m)
        (subst (λ z. m ≤ z) (sym (length-replicate d.length (0, None))) no_more) (subst (λ z. z ≤ d.length) (sym (length-replicate d.length (0, None))) (same_le d.length))
      where
        same_le : (a : ℕ) → a ≤ a
        same_le a = omega arith
