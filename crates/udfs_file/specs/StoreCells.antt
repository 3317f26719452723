-- The cells of a body whose blocks are in a store.
--     store_left states cells    those that are left
--     FitsFront front n          bytes that were taken are n
--     IsSizedStep left step      a descriptor has 38 to 2048 bytes, and not more than are left
use Rattle.std.specs.Prelude.{◌≡◌, ◌≤◌, ℕ, List, drop, length, Some, ⊤}
use Rattle.udfs_lattice.specs.Volumes.{Blocks}
use Rattle.udfs_space.specs.Views.{view_by}
use Rattle.udfs_file.specs.CellsLeft.{IsInFirst, room_of}
use Rattle.udfs_file.specs.Stretches.{cells_of}
use Rattle.udfs_file.specs.Steps.{bytes_of}
use Rattle.udfs_file.specs.declared.cells.Cell.{Cell}
use Rattle.udfs_file.specs.declared.cursors.Step.{Step}
use Rattle.udfs_file.specs.declared.cursors.Step.TheVariants.{Id, Stop, Fault, End}
use Rattle.udfs_file.specs.declared.pieces.Front.{Front}
use Rattle.udfs_file.specs.declared.pieces.Front.TheVariants as front
use Rattle.udfs_file.specs.declared.pieces.Pieces.{Pieces}
use Rattle.udfs_file.specs.Pieces.{ShowsBytes}
use Rattle.udfs_file.specs.Fronts.{first_missing, identifier_size}
use Rattle.udfs_file.specs.declared.store_cells.Head.{Head}
use Rattle.udfs_file.specs.declared.store_cells.Head.TheVariants as head
use Rattle.udfs_file.specs.declared.store_cells.StoreCells.{StoreCells}

-- the cells from here on
abbrev pub store_left : {B : Type 0} → (B → Blocks) → StoreCells B → List Cell
store_left states c = drop c.passed (cells_of (view_by states c.view) c.stretches.now)

-- the next cell lies in the first stretch, if any is left
abbrev pub IsStoreSettled : {B : Type 0} → StoreCells B → Type 0
IsStoreSettled c = IsInFirst c.passed c.stretches.now

-- how many of the first cells lie in one block
abbrev pub store_room : {B : Type 0} → StoreCells B → ℕ
store_room c = room_of c.passed c.stretches.now

-- where no cell is missing, so many bytes were taken
abbrev pub FitsFront : Front → ℕ → Type 0
FitsFront (front.Bytes view) count = length (bytes_of view) ≡ count
FitsFront (front.Gap n) count = ⊤

-- a descriptor has 38 to 2048 bytes, and not more than are left
abbrev pub IsSizedStep : ℕ → Step → Type 0
IsSizedStep left (Id view) = (38 ≤ length (bytes_of view)) × (length (bytes_of view) ≤ 2048) × (length (bytes_of view) ≤ left)
IsSizedStep left (Stop n) = ⊤
IsSizedStep left (Fault fault) = ⊤
IsSizedStep left End = ⊤

-- what the cells of a head say of its descriptor
abbrev pub IsHeadOf : Head → List Cell → Type 0
IsHeadOf (head.Gap n) cells = first_missing cells ≡ Some n
IsHeadOf (head.Size size) cells = (view : Pieces) × ShowsBytes view cells × (size ≡ identifier_size (bytes_of view))

-- a descriptor has at least 38 bytes
abbrev pub IsSizedHead : Head → Type 0
IsSizedHead (head.Gap n) = ⊤
IsSizedHead (head.Size size) = 38 ≤ size
