-- The cells of a node's body, beside the bytes of a file of the tree.
--     HasCellsAt view root i cells     the cells of the body at the end of route i in their order
--     IsToldAs profile n file          the node has the kind that these rules give the file, and its size and stamp
--     IsTornAs profile n file cells    so it has, and each byte outside its holes is the file's
use Rattle.std.specs.Prelude.{◌≡◌, ◌≢◌, ◌↔◌, ⊤, ℕ, ◌+◌, ◌<◌, ◌≤◌, List, Some, None, slice_get, Contains}
use Rattle.std.specs.List.{AllZip}
use Rattle.udfs_tag.specs.declared.layouts.LongAd.{LongAd}
use Rattle.udfs_volume.specs.declared.profiles.Profile.{Profile}
use Rattle.udfs_space.specs.Places.{View}
use Rattle.udfs_file.specs.Laws.{IsMissingAt}
use Rattle.udfs_file.specs.Standard.{Located}
use Rattle.udfs_file.specs.declared.cells.Cell.{Cell}
use Rattle.udfs_file.specs.declared.cells.Cell.TheVariants.{Byte, Gap}
use Rattle.udfs_file.specs.declared.faults.Kind.TheVariants.{Unread}
use Rattle.udfs_file.specs.declared.faults.NodeFault.{NodeFault}
use Rattle.udfs_walk.specs.Kinds.{kind_by}
use Rattle.udfs_walk.specs.NodeBodies.{HasCells}
use Rattle.udfs_walk.specs.NodeFields.{NodeFields}
use Rattle.udfs_walk.specs.Rereads.{holes_of}
use Rattle.udfs_walk.specs.Routes.{Walked, IsWalk}
use Rattle.udfs_walk.specs.declared.standings.Standing.TheVariants.{Whole, Loop, Fault}
use Rattle.udfs_walk.specs.Trees.{TreeFile}

-- the cells of the node at this place in the list of all nodes
pub record HasCellsAt (v : View) (root : LongAd) (index : ℕ) (cs : List Cell) : Type 0 where
  pub walks : List Walked
  pub walk : IsWalk v root walks
  pub end : Walked
  pub at : slice_get walks index ≡ Some end
  pub has_cells : HasCells v end.address cs

-- the cell is there, and is this byte
abbrev pub IsByteOf : Cell → Located → Type 0
IsByteOf (Byte x holder) located = x ≡ located.0
IsByteOf (Gap n) located = ⊥

-- the cell is this byte, or missing
abbrev pub IsByteOrMissing : Cell → Located → Type 0
IsByteOrMissing (Byte x holder) located = x ≡ located.0
IsByteOrMissing (Gap n) located = ⊤

-- the node is no loop and has no fault
abbrev pub HasNoFault : NodeFields → Type 0
HasNoFault n = (n.standing ≢ Loop) × ((f : NodeFault) → n.standing ≢ Fault f)

-- the node has the kind that these rules give the file's entry, and the file's size and stamp
pub record IsToldAs (profile : Profile) (n : NodeFields) (file : TreeFile) : Type 0 where
  pub kind : n.kind ≡ kind_by profile file.fields.kind
  pub size : n.size ≡ Some file.fields.size
  pub stamp : n.stamp ≡ Some file.fields.stamp

-- the entry of the node was not read: it has no kind, no size and no stamp
pub record IsUntold (n : NodeFields) : Type 0 where
  pub kind : n.kind ≡ Unread
  pub size : n.size ≡ None
  pub stamp : n.stamp ≡ None

-- a run, by its offset and length, holds this place
abbrev pub IsInRuns : List (ℕ × ℕ) → ℕ → Type 0
IsInRuns runs k = (run : ℕ × ℕ) × Contains runs run × (run.0 ≤ k) × (k < run.0 + run.1)

-- the node is told as the file; each of these cells is the file's byte or missing, and the node's
-- holes are the places of the missing ones
pub record IsTornAs (profile : Profile) (n : NodeFields) (file : TreeFile) (cs : List Cell) : Type 0 where
  pub told : IsToldAs profile n file
  pub bytes : AllZip IsByteOrMissing cs file.body
  pub holes : (k : ℕ) → IsMissingAt cs k ↔ IsInRuns (holes_of n.standing) k

-- the node is whole and told as the file, and these cells are all the file's bytes
pub record IsWholeAs (profile : Profile) (n : NodeFields) (file : TreeFile) (cs : List Cell) : Type 0 where
  pub standing : n.standing ≡ Whole
  pub told : IsToldAs profile n file
  pub bytes : AllZip IsByteOf cs file.body
