-- The cells of one block, as bytes side by side.
use Rattle.std.proofs.Common.{◌≡◌, refl, sym, ◌∙◌, ap, subst, inl, inr, ◌⊎◌, ℕ, ◌+◌, ◌-◌, ◌*◌, ◌/◌, ◌%◌, ◌<◌, ◌≤◌, min, List, ◌∷◌, length, take, drop, map, arith, Some, None, replicate, get_or, drop-cons}
use Rattle.std.specs.Prelude.{zero, suc}
use Rattle.std.specs.List.{range_with_len}
use Rattle.udfs_lattice.specs.States.{State}
use Rattle.udfs_lattice.specs.declared.facts.Fact.TheVariants.{Unknown, Known, Conflict}
use Rattle.udfs_space.specs.Places.{View, block_at}
use Rattle.udfs_file.specs.Bodies.{cell_in, cell_at, recorded_cell}
use Rattle.udfs_file.specs.Pieces.{byte_cells, rest_in_block}
use Rattle.udfs_file.specs.Stretches.{stretch_cells, stretch_count}
use Rattle.udfs_file.specs.declared.stretches.Run.{Run}
use Rattle.udfs_file.specs.declared.stretches.Stretch.{Stretch}
use Rattle.udfs_file.specs.declared.stretches.Stretch.TheVariants.{Recorded, Zeros, Missing}
use Rattle.udfs_file.specs.declared.cells.Cell.{Cell}
use Rattle.udfs_file.specs.declared.cells.Cell.TheVariants.{Byte, Gap}

pub zeros_are : (count m : ℕ) → count ≤ m → take count (replicate {A = ℕ} m 0) ≡ replicate count 0
zeros_are zero m h = refl
zeros_are (suc count) zero h = absurd (let z : ⊥ = omega (arith, h) in z)
zeros_are (suc count) (suc m) h = ap (λ l. 0 ∷ l) (zeros_are count m (omega (arith, h)))

same_block : (q p : ℕ) → 2048 * q ≤ p → p < 2048 * q + 2048 → p / 2048 ≡ q
same_block q p h k = omega arith

within : (q p : ℕ) → 2048 * q ≤ p → p < 2048 * q + 2048 → p % 2048 ≡ p - 2048 * q
within q p h k = omega arith

-- a block without a place reads as zeros
none_from : (v : View) (r b q p k : ℕ) → 2048 * q ≤ p → p + k ≤ 2048 * q + 2048 → block_at v r (b + q) ≡ None
    → map (recorded_cell v r b) (range_with_len p k) ≡ byte_cells None (replicate k 0)
none_from v r b q p zero h m e = refl
none_from v r b q p (suc k) h m e = λ i. first i ∷ none_from v r b q (p + 1) k (omega (arith, h)) (omega (arith, m)) e i
  where
    first : recorded_cell v r b p ≡ Byte 0 None
    first = ap (λ z. cell_at (b + z) (p % 2048) (block_at v r (b + z))) (same_block q p h (omega (arith, m))) ∙ ap (cell_at (b + q) (p % 2048)) e

pub none_cells : (v : View) (r b at k : ℕ) → at % 2048 + k ≤ 2048 → block_at v r (b + at / 2048) ≡ None
    → map (recorded_cell v r b) (range_with_len at k) ≡ byte_cells None (replicate k 0)
none_cells v r b at k h e = none_from v r b (at / 2048) at k (omega arith) (omega (arith, h)) e

-- a known block has its bytes
known_from : (v : View) (r b q p k n : ℕ) (bytes : List ℕ) → length bytes ≡ 2048 → 2048 * q ≤ p → p + k ≤ 2048 * q + 2048 → block_at v r (b + q) ≡ Some (n, Known bytes)
    → map (recorded_cell v r b) (range_with_len p k) ≡ byte_cells (Some (b + q)) (take k (drop (p - 2048 * q) bytes))
known_from v r b q p zero n bytes l h m e = refl
known_from v r b q p (suc k) n bytes l h m e = (λ i. first i ∷ known_from v r b q (p + 1) k n bytes l (omega (arith, h)) (omega (arith, m)) e i) ∙ sym (ap (λ z. byte_cells (Some (b + q)) (take (suc k) z)) opened)
  where
    j : ℕ
    j = p - 2048 * q

    inside : j < length bytes
    inside = omega (arith, l, m, h)

    first : recorded_cell v r b p ≡ Byte (get_or bytes j 0) (Some (b + q))
    first = ap (λ z. cell_at (b + z) (p % 2048) (block_at v r (b + z))) (same_block q p h (omega (arith, m)))
        ∙ ap (cell_at (b + q) (p % 2048)) e ∙ ap (λ z. Byte (get_or bytes z 0) (Some (b + q))) (within q p h (omega (arith, m)))

    opened : drop j bytes ≡ get_or bytes j 0 ∷ drop (p + 1 - 2048 * q) bytes
    opened = drop-cons bytes j 0 inside ∙ ap (λ z. get_or bytes j 0 ∷ drop z bytes) (let z : suc j ≡ p + 1 - 2048 * q = omega (arith, h) in z)

pub known_cells : (v : View) (r b at k n : ℕ) (bytes : List ℕ) → length bytes ≡ 2048 → at % 2048 + k ≤ 2048 → block_at v r (b + at / 2048) ≡ Some (n, Known bytes)
    → map (recorded_cell v r b) (range_with_len at k) ≡ byte_cells (Some (b + at / 2048)) (take k (drop (at % 2048) bytes))
known_cells v r b at k n bytes l h e = known_from v r b (at / 2048) at k n bytes l (omega arith) (omega (arith, h)) e
    ∙ ap (λ z. byte_cells (Some (b + at / 2048)) (take k (drop z bytes))) (let z : at - 2048 * (at / 2048) ≡ at % 2048 = omega arith in z)

-- a block that is not known is missing
gap_at : (b i n : ℕ) (s : State) → (s ≡ Unknown) ⊎ (s ≡ Conflict) → cell_in b n i s ≡ Gap n
gap_at b i n s (inl e) = ap (cell_in b n i) e
gap_at b i n s (inr e) = ap (cell_in b n i) e

pub gap_first : (v : View) (r b at k n : ℕ) (s : State) → 1 ≤ k → (s ≡ Unknown) ⊎ (s ≡ Conflict) → block_at v r (b + at / 2048) ≡ Some (n, s)
    → (rest : List Cell) × (map (recorded_cell v r b) (range_with_len at k) ≡ Gap n ∷ rest)
gap_first v r b at zero n s h u e = absurd (let z : ⊥ = omega (arith, h) in z)
gap_first v r b at (suc k) n s h u e = (
  map (recorded_cell v r b) (range_with_len (at + 1) k),
  ap (λ c. c ∷ map (recorded_cell v r b) (range_with_len (at + 1) k)) (ap (cell_at (b + at / 2048) (at % 2048)) e ∙ gap_at (b + at / 2048) (at % 2048) n s u),
)

-- ---- a part of one stretch
drop_range : {A : Type 0} (f : ℕ → A) (a n p : ℕ) → p ≤ n → drop p (map f (range_with_len a n)) ≡ map f (range_with_len (a + p) (n - p))
drop_range f a n zero h = λ i. map f (range_with_len (e i) (g i))
  where
    e : a ≡ a + 0
    e = omega arith

    g : n ≡ n - 0
    g = omega arith
drop_range f a zero (suc p) h = absurd (let z : ⊥ = omega (arith, h) in z)
drop_range f a (suc n) (suc p) h = drop_range f (a + 1) n p (omega (arith, h)) ∙ (λ i. map f (range_with_len (e i) (g i)))
  where
    e : a + 1 + p ≡ a + suc p
    e = omega arith

    g : n - p ≡ suc n - suc p
    g = omega arith

take_range : {A : Type 0} (f : ℕ → A) (a n k : ℕ) → k ≤ n → take k (map f (range_with_len a n)) ≡ map f (range_with_len a k)
take_range f a n zero h = refl
take_range f a zero (suc k) h = absurd (let z : ⊥ = omega (arith, h) in z)
take_range f a (suc n) (suc k) h = ap (λ l. f a ∷ l) (take_range f (a + 1) n k (omega (arith, h)))

pub part_range : {A : Type 0} (f : ℕ → A) (a n p k : ℕ) → p + k ≤ n → take k (drop p (map f (range_with_len a n))) ≡ map f (range_with_len (a + p) k)
part_range f a n p k h = ap (take k) (drop_range f a n p (omega (arith, h))) ∙ take_range f (a + p) (n - p) k (omega (arith, h))

pub part_same : {A : Type 0} (x : A) (n p k : ℕ) → p + k ≤ n → take k (drop p (replicate n x)) ≡ replicate k x
part_same x n zero zero h = refl
part_same x n (suc p) zero h = refl
part_same x zero zero (suc k) h = absurd (let z : ⊥ = omega (arith, h) in z)
part_same x (suc n) zero (suc k) h = ap (λ l. x ∷ l) (part_same x n zero k (omega (arith, h)))
part_same x zero (suc p) (suc k) h = absurd (let z : ⊥ = omega (arith, h) in z)
part_same x (suc n) (suc p) (suc k) h = part_same x n p (suc k) (omega (arith, h))

pub zero_bytes : (k : ℕ) → byte_cells None (replicate k 0) ≡ replicate k (Byte 0 None)
zero_bytes zero = refl
zero_bytes (suc k) = ap (λ l. Byte 0 None ∷ l) (zero_bytes k)

pub gap_part : (n count p k : ℕ) → 1 ≤ k → p + k ≤ count → (rest : List Cell) × (take k (drop p (replicate count (Gap n))) ≡ Gap n ∷ rest)
gap_part n count p zero h l = absurd (let z : ⊥ = omega (arith, h) in z)
gap_part n count p (suc k) h l = (replicate k (Gap n), part_same (Gap n) count p (suc k) l)

pub recorded_part : (v : View) (s : Stretch) (run : Run) (n p want at here : ℕ) → s ≡ Recorded run n → p < stretch_count s
    → at ≡ run.offset + p → here ≡ min (min (2048 - at % 2048) (n - p)) want
    → map (recorded_cell v run.address.reference run.address.block) (range_with_len at here) ≡ take (min want (rest_in_block s p)) (drop p (stretch_cells v s))
recorded_part v s run n p want at here e h a l = (λ i. map (recorded_cell v run.address.reference run.address.block) (range_with_len (a i) (same i)))
    ∙ sym (part_range (recorded_cell v run.address.reference run.address.block) run.offset n p (min want (rest_in_block (Recorded run n) p)) (omega (arith, left)))
    ∙ ap (λ z. take (min want (rest_in_block z p)) (drop p (stretch_cells v z))) (sym e)
  where
    left : p < n
    left = subst (λ z. p < stretch_count z) e h

    same : here ≡ min want (min (2048 - (run.offset + p) % 2048) (n - p))
    same = omega (arith, l, a)

pub zero_part : (v : View) (s : Stretch) (n p want here : ℕ) (bytes : List ℕ) → s ≡ Zeros n → p < stretch_count s → here ≡ min (n - p) want → bytes ≡ replicate here 0
    → take (min want (rest_in_block s p)) (drop p (stretch_cells v s)) ≡ byte_cells None bytes
zero_part v s n p want here bytes e h l b = ap (λ z. take (min want (rest_in_block z p)) (drop p (stretch_cells v z))) e
    ∙ part_same (Byte 0 None) n p (min want (n - p)) (omega (arith, left))
    ∙ ap (λ k. replicate k (Byte 0 None)) same
    ∙ sym (zero_bytes here) ∙ ap (byte_cells None) (sym b)
  where
    left : p < n
    left = subst (λ z. p < stretch_count z) e h

    same : min want (n - p) ≡ here
    same = omega (arith, l)

pub gap_piece : (v : View) (s : Stretch) (n count p want : ℕ) → s ≡ Missing n count → p < stretch_count s → 1 ≤ want
    → (rest : List Cell) × (take (min want (rest_in_block s p)) (drop p (stretch_cells v s)) ≡ Gap n ∷ rest)
gap_piece v s n count p want e h o = let g = gap_part n count p (min want (count - p)) (omega (arith, left, o)) (omega (arith, left)) in
    (g.0, ap (λ z. take (min want (rest_in_block z p)) (drop p (stretch_cells v z))) e ∙ g.1)
  where
    left : p < count
    left = subst (λ z. p < stretch_count z) e h
