-- How many bytes a step tells of, whatever the store tells.
use Rattle.std.proofs.Common.{◌≡◌, ap, sym, ◌∙◌, subst, ℕ, ◌-◌, ◌<◌, ◌≤◌, List, drop, length, arith, nat_le, true}
use Rattle.std.proofs.lemmas.List.{length-drop}
use Rattle.udfs_file.specs.Identifiers as identifiers
use Rattle.udfs_file.specs.Steps.{HasBytes, StepIs, bytes_of, left_behind}
use Rattle.udfs_file.specs.StoreCells.{IsSizedStep}
use Rattle.udfs_file.specs.declared.cells.Cell.{Cell}
use Rattle.udfs_file.specs.declared.cursors.Step as cursor
use Rattle.udfs_file.specs.declared.cursors.Step.TheVariants.{Id, Stop, Fault, End}
use Rattle.udfs_file.specs.declared.pieces.Pieces.{Pieces}

-- behind a descriptor fewer cells are left
pub sized_fewer : (left behind : List Cell) (told : cursor.Step) (view : Pieces) → behind ≡ left_behind told left → IsSizedStep (length left) told → told ≡ Id view → length behind < length left
sized_fewer left behind told view b s t = go (subst (λ (x : cursor.Step). behind ≡ left_behind x left) t b) (subst (λ (x : cursor.Step). IsSizedStep (length left) x) t s)
  where
    go : behind ≡ left_behind (Id view) left → IsSizedStep (length left) (Id view) → length behind < length left
    go b s = let e : length behind ≡ length left - length (bytes_of view) = ap length b ∙ length-drop (length (bytes_of view)) left in
        let least : 38 ≤ length (bytes_of view) = s.0 in let most : length (bytes_of view) ≤ length left = s.2 in omega (arith, e, least, most)

le_of : (a b : ℕ) → nat_le a b ≡ true → a ≤ b
le_of a b h = grind arith

-- a step that was told of so many bytes has 38 to 2048 bytes, and not more than are left
pub sized_told : (told : cursor.Step) (s : identifiers.Step) (bytes : List ℕ) (size left : ℕ) → StepIs told s → HasBytes bytes told → length bytes ≡ size → nat_le size left ≡ true → IsSizedStep left told
sized_told (Id view) s bytes size left i b e h =
    let least : 38 ≤ length (bytes_of view) = i.1.least in let most : length (bytes_of view) ≤ 2048 = i.1.most in
    let same : length (bytes_of view) ≡ length bytes = ap length b in let fits : size ≤ left = le_of size left h in
    (least, most, let z : length (bytes_of view) ≤ left = omega (arith, same, e, fits) in z)
sized_told (Stop n) s bytes size left i b e h = tt
sized_told (Fault fault) s bytes size left i b e h = tt
sized_told End s bytes size left i b e h = tt

-- where so many bytes of a descriptor are passed, what is left is what comes behind the step
pub passed_by : (before after : List Cell) (told : cursor.Step) (view : Pieces) (size : ℕ) → told ≡ Id view → size ≡ length (bytes_of view) → after ≡ drop size before → after ≡ left_behind told before
passed_by before after told view size t e b = b ∙ ap (λ n. drop n before) e ∙ sym (ap (λ (x : cursor.Step). left_behind x before) t)
