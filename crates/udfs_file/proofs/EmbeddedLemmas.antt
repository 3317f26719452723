-- A body as its entry gives it: listed by descriptors, or embedded.
use Rattle.std.proofs.Common.{◌≡◌, ◌≢◌, refl, sym, ◌∙◌, ap, subst, inr, ℕ, ◌+◌, ◌/◌, ◌%◌, ◌<◌, ◌≤◌, Bool, true, false, cond, List, [], ◌∷◌, ◌++◌, length, take, drop, map, get_or, arith, Some, slice_index, drop-cons, append-nil}
use Rattle.std.proofs.lemmas.List.{length-take}
use Rattle.udfs_file.specs.declared.stretches.Stretch.{Stretch}
use Rattle.std.specs.Prelude.{zero, suc}
use Rattle.std.specs.List.{range_with_len}
use Rattle.udfs_lattice.specs.declared.facts.Fact.TheVariants.{Known}
use Rattle.udfs_space.specs.Places.{View, block_at}
use Rattle.udfs_file.specs.Entries.{entry_of, area_start, descriptors_length, FitsBlock}
use Rattle.udfs_file.specs.Bodies.{cell_at, recorded_cell, cells, faulty_body, body, embedded_body, extents_body_by}
use Rattle.udfs_file.specs.declared.cells.Cell.{Cell}
use Rattle.udfs_file.specs.declared.cells.Cell.TheVariants.{Byte}
use Rattle.udfs_file.specs.Stretches.{LieInBlocks, cells_of}
use Rattle.udfs_file.specs.declared.stretches.Stretch.TheVariants.{Recorded}
use Rattle.udfs_file.specs.declared.faults.NodeFault.TheVariants.{Short}
use Rattle.udfs_file.proofs.BodyFrom.{not_le, is_le}
use Rattle.udfs_file.proofs.ExtentLemmas.{is_not, is_same}

le_trans : (a b c : ℕ) → a ≤ b → b ≤ c → a ≤ c
le_trans a b c h k = omega arith

sum_le : (a b c : ℕ) → b ≤ c → a + c ≤ 2048 → a + b ≤ 2048
sum_le a b c h k = omega arith

pub body-listed : (v : View) (r b : ℕ) (bytes : List ℕ) → (entry_of bytes).form ≢ 3
    → extents_body_by v (entry_of bytes).form r (entry_of bytes).size (entry_of bytes).area ≡ body v r b (entry_of bytes)
unfolding body
body-listed v r b bytes h = sym (ap (λ t. cond t (embedded_body b (entry_of bytes)) (extents_body_by v (entry_of bytes).form r (entry_of bytes).size (entry_of bytes).area)) (is_not (entry_of bytes).form 3 h))

body-embedded : (v : View) (r b : ℕ) (bytes : List ℕ) → (entry_of bytes).form ≡ 3 → body v r b (entry_of bytes) ≡ embedded_body b (entry_of bytes)
unfolding body
body-embedded v r b bytes h = ap (λ t. cond t (embedded_body b (entry_of bytes)) (extents_body_by v (entry_of bytes).form r (entry_of bytes).size (entry_of bytes).area)) (is_same (entry_of bytes).form 3 h)

pub body-short : (v : View) (r b : ℕ) (bytes : List ℕ) → (entry_of bytes).form ≡ 3 → length (entry_of bytes).area < (entry_of bytes).size
    → body v r b (entry_of bytes) ≡ faulty_body Short
body-short v r b bytes h k = body-embedded v r b bytes h
    ∙ ap (λ t. cond t (cells (map (λ x. Byte x (Some b)) (take (entry_of bytes).size (entry_of bytes).area))) (faulty_body Short)) (not_le (entry_of bytes).size (length (entry_of bytes).area) k)

-- the cells of a known block
cell_here : (v : View) (r b n : ℕ) (bytes : List ℕ) (i : ℕ) → block_at v r b ≡ Some (n, Known bytes) → i < 2048 → recorded_cell v r b i ≡ Byte (slice_index bytes i) (Some b)
cell_here v r b n bytes i e h =
    let q : i / 2048 ≡ 0 = omega arith in
    let m : i % 2048 ≡ i = omega arith in
    let z : b + i / 2048 ≡ b = omega arith in
    ap (λ x. cell_at x (i % 2048) (block_at v r x)) z
    ∙ ap (λ x. cell_at b x (block_at v r b)) m
    ∙ ap (cell_at b i) e

pub block_cells : (v : View) (r b n : ℕ) (bytes : List ℕ) (at k : ℕ) → block_at v r b ≡ Some (n, Known bytes) → length bytes ≡ 2048 → at + k ≤ 2048
    → map (recorded_cell v r b) (range_with_len at k) ≡ map (λ x. Byte x (Some b)) (take k (drop at bytes))
block_cells v r b n bytes at zero e w h = refl
block_cells v r b n bytes at (suc k) e w h =
    ap (λ (x : Cell). x ∷ map (recorded_cell v r b) (range_with_len (at + 1) k)) (cell_here v r b n bytes at e (omega arith))
    ∙ ap (λ (xs : List Cell). Byte (slice_index bytes at) (Some b) ∷ xs) (block_cells v r b n bytes (at + 1) k e w (omega arith))
    ∙ sym (ap (λ (xs : List ℕ). map (λ x. Byte x (Some b)) (take (suc k) xs)) (drop-cons bytes at 0 (omega arith) ∙ ap (λ m. get_or bytes at 0 ∷ drop m bytes) (let e2 : suc at ≡ at + 1 = omega arith in e2)))

take_part : (k n : ℕ) (xs : List ℕ) → k ≤ n → take k (take n xs) ≡ take k xs
take_part zero n xs h = refl
take_part (suc k) zero xs h = absurd (omega arith)
take_part (suc k) (suc n) [] h = refl
take_part (suc k) (suc n) (x ∷ xs) h = ap (λ (ys : List ℕ). x ∷ ys) (take_part k n xs (omega arith))

area_is : (bytes : List ℕ) → (entry_of bytes).area ≡ take (descriptors_length bytes) (drop (area_start bytes) bytes)
unfolding entry_of
area_is bytes = refl

one_stretch : (v : View) (r b at k : ℕ) → cells_of v (Recorded (record { address = record { block = b; reference = r }; offset = at }) k ∷ []) ≡ map (recorded_cell v r b) (range_with_len at k)
unfolding cells_of
one_stretch v r b at k = append-nil (map (recorded_cell v r b) (range_with_len at k))

area_length : (n at : ℕ) (bytes : List ℕ) → length (take n (drop at bytes)) ≤ n
area_length n at bytes = omega (arith, length-take {A = ℕ})

-- embedded bytes lie in the entry's block
embedded_fits : (bytes : List ℕ) → FitsBlock bytes → (entry_of bytes).size ≤ length (entry_of bytes).area → area_start bytes + (entry_of bytes).size ≤ 2048
embedded_fits bytes fit k = sum_le (area_start bytes) (entry_of bytes).size (descriptors_length bytes)
    (le_trans (entry_of bytes).size (length (entry_of bytes).area) (descriptors_length bytes) k
    (subst (λ (a : List ℕ). length a ≤ descriptors_length bytes) (sym (area_is bytes)) (area_length (descriptors_length bytes) (area_start bytes) bytes)))
    fit

pub embedded_lies : (r b : ℕ) (bytes : List ℕ) (items : List Stretch) → FitsBlock bytes → (entry_of bytes).size ≤ length (entry_of bytes).area
    → items ≡ Recorded (record { address = record { block = b; reference = r }; offset = area_start bytes }) (entry_of bytes).size ∷ [] → LieInBlocks items
embedded_lies r b bytes items fit k is = subst LieInBlocks (sym is) (inr (embedded_fits bytes fit k))

pub body-recorded : (v : View) (r b n : ℕ) (bytes : List ℕ) (items : List Stretch) → (entry_of bytes).form ≡ 3 → block_at v r b ≡ Some (n, Known bytes)
    → length bytes ≡ 2048 → FitsBlock bytes → (entry_of bytes).size ≤ length (entry_of bytes).area
    → items ≡ Recorded (record { address = record { block = b; reference = r }; offset = area_start bytes }) (entry_of bytes).size ∷ []
    → body v r b (entry_of bytes) ≡ cells (cells_of v items)
body-recorded v r b n bytes items f e w fit k is =
    let size = (entry_of bytes).size in
    let short : size ≤ descriptors_length bytes = le_trans size (length (entry_of bytes).area) (descriptors_length bytes) k
    (subst (λ (a : List ℕ). length a ≤ descriptors_length bytes) (sym (area_is bytes)) (area_length (descriptors_length bytes) (area_start bytes) bytes)) in
    let within : area_start bytes + size ≤ 2048 = sum_le (area_start bytes) size (descriptors_length bytes) short fit in
    body-embedded v r b bytes f
    ∙ ap (λ t. cond t (cells (map (λ x. Byte x (Some b)) (take (entry_of bytes).size (entry_of bytes).area))) (faulty_body Short)) (is_le (entry_of bytes).size (length (entry_of bytes).area) k)
    ∙ ap (λ (a : List ℕ). cells (map (λ x. Byte x (Some b)) (take size a))) (area_is bytes)
    ∙ ap (λ (a : List ℕ). cells (map (λ x. Byte x (Some b)) a)) (take_part size (descriptors_length bytes) (drop (area_start bytes) bytes) short)
    ∙ ap cells (sym (block_cells v r b n bytes (area_start bytes) size e w within))
    ∙ ap cells (sym (one_stretch v r b (area_start bytes) size))
    ∙ ap (λ (xs : List Stretch). cells (cells_of v xs)) (sym is)

-- the same, by what the entry tells
pub body-by : (v : View) (r b : ℕ) (bytes : List ℕ) (form size : ℕ) (area : List ℕ) → form ≡ (entry_of bytes).form → size ≡ (entry_of bytes).size → area ≡ (entry_of bytes).area
    → (form ≡ 3 → ⊥) → extents_body_by v form r size area ≡ body v r b (entry_of bytes)
body-by v r b bytes form size area f s a h =
    ap (λ n. extents_body_by v n r size area) f ∙ ap (λ n. extents_body_by v (entry_of bytes).form r n area) s ∙ ap (λ (xs : List ℕ). extents_body_by v (entry_of bytes).form r (entry_of bytes).size xs) a
    ∙ body-listed v r b bytes (λ z. h (f ∙ z))

pub pushed_alone : {A : Type 0} (old new : List A) (x y : A) (ok : Bool) → old ≡ [] → new ≡ cond ok (old ++ x ∷ []) old → ok ≡ true → x ≡ y → new ≡ y ∷ []
pushed_alone old new x y true e h k z = h ∙ ap (λ xs. xs ++ x ∷ []) e ∙ ap (λ t. t ∷ []) z
pushed_alone old new x y false e h k z = cc
