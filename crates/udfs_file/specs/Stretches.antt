-- What code reports of a body: stretches of cells, each by numbers alone.
--     stretch_cells view s       the cells of a stretch
--     cells_of view ss           the cells of stretches, one after the other
--     LieInBlocks ss             all but the last fill their blocks
--     GivesStretches view result whole    the result is what the definition says
use Rattle.std.specs.Prelude.{◌≡◌, ◌⊎◌, ⊤, ◌+◌, ◌%◌, ◌<◌, ◌≤◌, Bool, false, length, ℕ, List, [], ◌∷◌, map, flat_map, replicate, Some, None, Result, Ok, Err}
use Rattle.std.specs.List.{range_with_len}
use Rattle.udfs_tag.specs.declared.layouts.LongAd.{LongAd}
use Rattle.udfs_space.specs.Places.{View, block_at}
use Rattle.udfs_lattice.specs.declared.facts.Fact.TheVariants.{Known}
use Rattle.udfs_file.specs.Bodies.{recorded_cell, Body, cells, faulty_body, extent_fault, extent_cells, cells_in, Next, area_at, unread_at, broken}
use Rattle.udfs_file.specs.declared.cells.Cell.{Cell}
use Rattle.udfs_file.specs.declared.cells.Cell.TheVariants.{Byte, Gap}
use Rattle.udfs_file.specs.declared.faults.NodeFault.{NodeFault}
use Rattle.udfs_file.specs.declared.stretches.Stretch.{Stretch}
use Rattle.udfs_file.specs.declared.stretches.Stretch.TheVariants.{Recorded, Zeros, Missing}
use Rattle.udfs_file.specs.declared.stretches.Follow.{Follow}
use Rattle.udfs_file.specs.declared.stretches.Follow.TheVariants.{Area, Unread, Broken}
use Rattle.udfs_file.specs.declared.faults.WalkError.{WalkError}
use Rattle.udfs_file.specs.declared.faults.WalkError.TheVariants.{Fault, OutOfMemory}

-- the cells of a stretch
abbrev pub stretch_cells : View → Stretch → List Cell
stretch_cells view (Recorded run count) = map (recorded_cell view run.address.reference run.address.block) (range_with_len run.offset count)
stretch_cells view (Zeros count) = replicate count (Byte 0 None)
stretch_cells view (Missing n count) = replicate count (Gap n)

-- the cells of stretches, one after the other
unfoldable pub cells_of : View → List Stretch → List Cell
cells_of view stretches = flat_map (stretch_cells view) stretches

-- the number of cells
abbrev pub stretch_count : Stretch → ℕ
stretch_count (Recorded run count) = count
stretch_count (Zeros count) = count
stretch_count (Missing n count) = count

-- the last stretch begins a block, or lies in one
abbrev pub IsLastStretch : Stretch → Type 0
IsLastStretch (Recorded run count) = (run.offset ≡ 0) ⊎ (run.offset + count ≤ 2048)
IsLastStretch (Zeros count) = ⊤
IsLastStretch (Missing n count) = ⊤

-- a stretch before the last begins a block and fills its blocks, and no byte of it is missing
abbrev pub FillsBlocks : Stretch → Type 0
FillsBlocks (Recorded run count) = (run.offset ≡ 0) × (count % 2048 ≡ 0)
FillsBlocks (Zeros count) = count % 2048 ≡ 0
FillsBlocks (Missing n count) = ⊥

-- each stretch before the last begins a block, fills its blocks and lacks no byte; the last begins a block, or lies in one
abbrev pub LieInBlocks : List Stretch → Type 0
LieInBlocks [] = ⊤
LieInBlocks (s ∷ []) = IsLastStretch s
LieInBlocks (s ∷ next ∷ ss) = FillsBlocks s × LieInBlocks (next ∷ ss)

-- a taken extent as a stretch, or its fault
pub record IsExtent (view : View) (size c : ℕ) (d : LongAd) (s : Stretch) : Type 0 where
  pub no_fault : extent_fault view size (c, d) ≡ None
  pub cells : stretch_cells view s ≡ extent_cells view size (c, d)
  pub count : stretch_count s ≡ cells_in size (c, d)
  pub last : IsLastStretch s
  pub fills : c + stretch_count s < size → FillsBlocks s

-- an extent was read as its stretch, or failed with its first fault
abbrev pub IsExtentRead : Result Stretch NodeFault → View → ℕ → ℕ → LongAd → Type 0
IsExtentRead (Ok s) view size c d = IsExtent view size c d s
IsExtentRead (Err fault) view size c d = extent_fault view size (c, d) ≡ Some fault

-- what follows an area, as it reads through a reference
abbrev pub next_now : Follow → Next
next_now (Area bytes) = area_at bytes.now
next_now (Unread n) = unread_at n
next_now (Broken fault) = broken fault

-- an area lies in one block, and is followed only where more areas are allowed
abbrev pub IsFollowed : Follow → Bool → Type 0
IsFollowed (Area bytes) is_last = (length bytes.now ≤ 2048) × (is_last ≡ false)
IsFollowed (Unread n) is_last = Unit {0}
IsFollowed (Broken fault) is_last = Unit {0}

-- an area of allocation descriptors lies within a block
abbrev pub FitsArea : Follow → Type 0
FitsArea (Area bytes) = length bytes.now ≤ 2048
FitsArea (Unread n) = Unit {0}
FitsArea (Broken fault) = Unit {0}

-- the result is what the definition says; memory may run out whatever it says
abbrev pub GivesStretches : View → Result (List Stretch) WalkError → Body → Type 0
GivesStretches view (Ok stretches) whole = whole ≡ cells (cells_of view stretches)
GivesStretches view (Err (Fault fault)) whole = whole ≡ faulty_body fault
GivesStretches view (Err OutOfMemory) whole = Unit {0}

-- these bytes are what is known at logical block b
abbrev pub IsStanding : View → ℕ → ℕ → List ℕ → Type 0
IsStanding view r b bytes = (n : ℕ) × (block_at view r b ≡ Some (n, Known bytes))
