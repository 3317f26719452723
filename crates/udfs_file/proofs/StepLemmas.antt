-- A descriptor at the front of cells, told by the first cells alone.
use Rattle.std.proofs.Common.{◌≡◌, refl, sym, ◌∙◌, ap, ℕ, ◌+◌, ◌-◌, ◌<◌, ◌≤◌, Bool, true, false, List, [], ◌∷◌, ◌++◌, length, take, drop, map, cond, ◌||◌, arith, Some, None, nat_lt, nat_le}
use Rattle.std.specs.Prelude.{zero, suc, is_some, Result, Ok, Err}
use Rattle.udfs_tag.specs.Fields.{part, uint8_at, uint16_at}
use Rattle.udfs_osta.specs.Names.{fault_of, units_of}
use Rattle.udfs_osta.specs.declared.names.NameFault.{NameFault}
use Rattle.std.proofs.lemmas.List.{length-take-le, length-map}
use Rattle.udfs_volume.specs.declared.profiles.Profile.{Profile}
use Rattle.udfs_file.specs.Pieces.{ShowsBytes}
use Rattle.udfs_file.specs.Steps.{HasBytes, HasFirstBytes, IsDescriptor, bytes_of}
use Rattle.udfs_file.specs.declared.cursors.Step as cursor
use Rattle.udfs_file.specs.declared.cursors.Step.TheVariants.{Id, Stop, Fault, End}
use Rattle.udfs_file.specs.declared.cells.Cell.{Cell}
use Rattle.udfs_file.specs.declared.cells.Cell.TheVariants.{Byte, Gap}
use Rattle.udfs_file.specs.declared.pieces.Pieces.{Pieces}
use Rattle.udfs_file.specs.Identifiers.{Identifier, Step, AtRest, One, Nothing, Stopped, Wrong}
use Rattle.udfs_file.specs.declared.faults.NodeFault.TheVariants.{Cut, Name}
use Rattle.udfs_file.specs.Fronts.{first_missing, value, holder_of, identifier_size, or_stop, checked_by, sized_by, step_by, is_listed, entry_with, identifier_in}

is_lt : (a b : ℕ) → nat_le b a ≡ false → nat_lt a b ≡ true
is_lt a b h = grind arith

not_lt : (a b : ℕ) → nat_le b a ≡ true → nat_lt a b ≡ false
not_lt a b h = grind arith

le_of : (a b : ℕ) → nat_le a b ≡ true → a ≤ b
le_of a b h = grind arith

module _ (rules : Profile) where
  pub step_none : (cells : List Cell) → nat_le 1 (length cells) ≡ false → step_by rules cells ≡ AtRest Nothing
  unfolding step_by
  step_none [] h = refl
  step_none (c ∷ cs) h = absurd (let z : nat_le 1 (length (c ∷ cs)) ≡ true = grind arith in let y : ⊥ = cc in y)

  abbrev of_many : List Cell → Bool → Step
  of_many cells b = cond b (AtRest (Wrong Cut)) (or_stop (first_missing (take 38 cells)) (sized_by rules cells (identifier_size (map value (take 38 cells)))))

  step_some : (cells : List Cell) → nat_le 1 (length cells) ≡ true → step_by rules cells ≡ of_many cells (nat_lt (length cells) 38)
  unfolding step_by
  step_some [] h = absurd (let z : nat_le 1 (length {A = Cell} []) ≡ false = grind arith in let y : ⊥ = cc in y)
  step_some (c ∷ cs) h = refl

  pub step_cut : (cells : List Cell) → nat_le 1 (length cells) ≡ true → nat_le 38 (length cells) ≡ false → step_by rules cells ≡ AtRest (Wrong Cut)
  step_cut cells o h = step_some cells o ∙ ap (of_many cells) (is_lt (length cells) 38 h)

  step_long : (cells : List Cell) → nat_le 1 (length cells) ≡ true → nat_le 38 (length cells) ≡ true
      → step_by rules cells ≡ or_stop (first_missing (take 38 cells)) (sized_by rules cells (identifier_size (map value (take 38 cells))))
  step_long cells o h = step_some cells o ∙ ap (of_many cells) (not_lt (length cells) 38 h)

  pub step_stopped : (cells : List Cell) (n : ℕ) → nat_le 1 (length cells) ≡ true → nat_le 38 (length cells) ≡ true → first_missing (take 38 cells) ≡ Some n → step_by rules cells ≡ AtRest (Stopped n)
  step_stopped cells n o h m = step_long cells o h ∙ ap (λ b. or_stop b (sized_by rules cells (identifier_size (map value (take 38 cells))))) m

  pub step_sized : (cells : List Cell) (head : Pieces) → nat_le 1 (length cells) ≡ true → nat_le 38 (length cells) ≡ true → ShowsBytes head (take 38 cells)
      → step_by rules cells ≡ sized_by rules cells (identifier_size (bytes_of head))
  step_sized cells head o h b = step_long cells o h ∙ ap (λ m. or_stop m (sized_by rules cells (identifier_size (map value (take 38 cells))))) b.no_missing
      ∙ ap (λ bytes. sized_by rules cells (identifier_size bytes)) b.values

-- pieces have as many bytes as there are cells
pub bytes_length : (cells : List Cell) (n : ℕ) (view : Pieces) → n ≤ length cells → ShowsBytes view (take n cells) → length (bytes_of view) ≡ n
bytes_length cells n view h b = sym (ap length b.values) ∙ length-map (take n cells) value ∙ length-take-le n cells h

pub head_length : (cells : List Cell) (n : ℕ) (view : Pieces) → nat_le n (length cells) ≡ true → ShowsBytes view (take n cells) → n ≤ length (bytes_of view)
head_length cells n view h b = let e : length (bytes_of view) ≡ n = bytes_length cells n view (le_of n (length cells) h) b in omega (arith, e)

-- a descriptor that has the bytes of pieces at the beginning of some cells
pub first_bytes : (cells : List Cell) (n : ℕ) (view : Pieces) (told : cursor.Step) → nat_le n (length cells) ≡ true → ShowsBytes view (take n cells) → HasBytes (bytes_of view) told → HasFirstBytes cells told
first_bytes cells n view (Id own) h b same = same ∙ sym b.values ∙ ap (λ k. map value (take k cells)) (sym (ap length same ∙ bytes_length cells n view (le_of n (length cells) h) b))
first_bytes cells n view (Stop m) h b same = tt
first_bytes cells n view (Fault f) h b same = tt
first_bytes cells n view End h b same = tt

-- ---- a descriptor of a size
holder_front : (size : ℕ) (cells : List Cell) → 0 < size → holder_of (take size cells) ≡ holder_of cells
holder_front zero cells h = absurd (let z : ⊥ = omega (arith, h) in z)
holder_front (suc n) [] h = refl
holder_front (suc n) (Byte x o ∷ cs) h = refl
holder_front (suc n) (Gap b ∷ cs) h = refl

module _ (rules : Profile) where
  abbrev of_size : List Cell → ℕ → Bool → Step
  of_size cells size b = cond b (AtRest (Wrong Cut)) (or_stop (first_missing (take size cells)) (checked_by rules (holder_of cells) (map value (take size cells))))

  pub sized_long : (cells : List Cell) (size : ℕ) → 2048 < size → sized_by rules cells size ≡ AtRest (Wrong Cut)
  sized_long cells size h = ap (of_size cells size) (let e : nat_lt 2048 size ≡ true = grind arith in ap (λ b. b || nat_lt (length cells) size) e)

  pub sized_cut : (cells : List Cell) (size : ℕ) → nat_le size (length cells) ≡ false → sized_by rules cells size ≡ AtRest (Wrong Cut)
  sized_cut cells size h = ap (λ b. of_size cells size (nat_lt 2048 size || b)) (is_lt (length cells) size h) ∙ go (nat_lt 2048 size)
    where
      go : (b : Bool) → of_size cells size (b || true) ≡ AtRest (Wrong Cut)
      go true = refl
      go false = refl

  sized_fits : (cells : List Cell) (size : ℕ) → size ≤ 2048 → nat_le size (length cells) ≡ true
      → sized_by rules cells size ≡ or_stop (first_missing (take size cells)) (checked_by rules (holder_of cells) (map value (take size cells)))
  sized_fits cells size l h = ap (of_size cells size) ((λ i. long i || short i))
    where
      long : nat_lt 2048 size ≡ false
      long = grind arith

      short : nat_lt (length cells) size ≡ false
      short = not_lt (length cells) size h

  pub sized_stopped : (cells : List Cell) (size n : ℕ) → size ≤ 2048 → nat_le size (length cells) ≡ true → first_missing (take size cells) ≡ Some n → sized_by rules cells size ≡ AtRest (Stopped n)
  sized_stopped cells size n l h m = sized_fits cells size l h ∙ ap (λ b. or_stop b (checked_by rules (holder_of cells) (map value (take size cells)))) m

  pub sized_whole : (cells : List Cell) (size : ℕ) (view : Pieces) → 38 ≤ size → size ≤ 2048 → nat_le size (length cells) ≡ true → ShowsBytes view (take size cells)
      → checked_by rules view.holder (bytes_of view) ≡ sized_by rules cells size
  sized_whole cells size view low l h b = sym (sized_fits cells size l h ∙ ap (λ m. or_stop m (checked_by rules (holder_of cells) (map value (take size cells)))) b.no_missing
      ∙ (λ i. checked_by rules (holder i) (b.values i)))
    where
      holder : holder_of cells ≡ view.holder
      holder = sym (holder_front size cells (omega (arith, low))) ∙ b.holder

-- ---- the name in a descriptor
drop_append : {A : Type 0} (n : ℕ) (xs ys : List A) → drop n (xs ++ ys) ≡ drop n xs ++ drop (n - length xs) ys
drop_append n [] ys = ap (λ k. drop k ys) (let e : n ≡ n - 0 = omega arith in e) ∙ ap (λ l. l ++ drop (n - 0) ys) (sym (drop_nothing n))
  where
    drop_nothing : {A : Type 0} (n : ℕ) → drop {A = A} n [] ≡ []
    drop_nothing zero = refl
    drop_nothing (suc n) = refl
drop_append zero (x ∷ xs) ys = ap (λ k. x ∷ (xs ++ drop k ys)) (let e : 0 ≡ 0 - suc (length xs) = omega arith in e)
drop_append (suc n) (x ∷ xs) ys = drop_append n xs ys ∙ ap (λ k. drop n xs ++ drop k ys) (let e : n - length xs ≡ suc n - suc (length xs) = omega arith in e)

take_append : {A : Type 0} (n : ℕ) (xs ys : List A) → take n (xs ++ ys) ≡ take n xs ++ take (n - length (take n xs)) ys
take_append zero [] ys = refl
take_append (suc n) [] ys = ap (λ k. take k ys) (let e : suc n ≡ suc n - 0 = omega arith in e)
take_append zero (x ∷ xs) ys = refl
take_append (suc n) (x ∷ xs) ys = ap (λ l. x ∷ l) (take_append n xs ys ∙ ap (λ k. take n xs ++ take k ys) (let e : n - length (take n xs) ≡ suc n - suc (length (take n xs)) = omega arith in e))

-- a part of two pieces
pub part_two : (first second a b : List ℕ) (start count : ℕ) → a ≡ take count (drop start first) → b ≡ take (count - length a) (drop (start - length first) second)
    → a ++ b ≡ take count (drop start (first ++ second))
part_two first second a b start count e f = (λ i. e i ++ (f ∙ ap (λ z. take (count - length z) (drop (start - length first) second)) e) i)
    ∙ sym (ap (take count) (drop_append start first second) ∙ take_append count (drop start first) (drop (start - length first) second))

abbrev name_of : List ℕ → List ℕ
name_of bytes = part bytes (38 + uint16_at bytes 36) (uint8_at bytes 19)

pub unlisted : (bytes : List ℕ) → 38 ≤ length bytes → length bytes ≤ 2048 → is_listed bytes ≡ false
    → (id : Identifier) × IsDescriptor bytes id × (identifier_in (length bytes) bytes ≡ One id)
unlisted bytes l m e = (record { size = length bytes; listed = None }, record { least = l; most = m; size = refl; is = is }, is)
  where
    is : identifier_in (length bytes) bytes ≡ One (record { size = length bytes; listed = None })
    is = ap (λ b. cond b (entry_with (length bytes) bytes (units_of (name_of bytes))) (One (record { size = length bytes; listed = None }))) e

listed_is : (bytes : List ℕ) (r : Result (List ℕ) NameFault) → is_listed bytes ≡ true → units_of (name_of bytes) ≡ r → identifier_in (length bytes) bytes ≡ entry_with (length bytes) bytes r
listed_is bytes r e u = ap (λ b. cond b (entry_with (length bytes) bytes (units_of (name_of bytes))) (One (record { size = length bytes; listed = None }))) e ∙ ap (entry_with (length bytes) bytes) u

pub good_name : (bytes : List ℕ) → 38 ≤ length bytes → length bytes ≤ 2048 → is_listed bytes ≡ true → is_some (fault_of (units_of (name_of bytes))) ≡ false
    → (id : Identifier) × IsDescriptor bytes id × (identifier_in (length bytes) bytes ≡ One id)
good_name bytes l m e n = go (units_of (name_of bytes)) refl n
  where
    go : (r : Result (List ℕ) NameFault) → units_of (name_of bytes) ≡ r → is_some (fault_of r) ≡ false → (id : Identifier) × IsDescriptor bytes id × (identifier_in (length bytes) bytes ≡ One id)
    go (Ok units) u f = (_, record { least = l; most = m; size = refl; is = listed_is bytes (Ok units) e u }, listed_is bytes (Ok units) e u)
    go (Err fault) u f = absurd (let z : ⊥ = cc in z)

pub bad_name : (bytes : List ℕ) → is_listed bytes ≡ true → is_some (fault_of (units_of (name_of bytes))) ≡ true → identifier_in (length bytes) bytes ≡ AtRest (Wrong Name)
bad_name bytes e n = go (units_of (name_of bytes)) refl n
  where
    go : (r : Result (List ℕ) NameFault) → units_of (name_of bytes) ≡ r → is_some (fault_of r) ≡ true → identifier_in (length bytes) bytes ≡ AtRest (Wrong Name)
    go (Ok units) u f = absurd (let z : ⊥ = cc in z)
    go (Err fault) u f = listed_is bytes (Err fault) e u
