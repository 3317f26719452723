-- What the lost trees that `extract` writes say of a lawful volume, and how a report is one of nodes from a root.
--     LostTreesAreWalked          each has the nodes from the place that its name tells
--     LostTreesAreTheVolumes      each is the part of the volume's tree below its folder
--     ReportsAreWalked            a report's nodes are those from the volume's root
use Rattle.std.specs.Prelude.{◌≡◌, ℕ, Bool, List, Contains, map}
use Rattle.udfs_lattice.specs.Tables.{Table, state_of}
use Rattle.udfs_lattice.specs.Volumes.{Blocks}
use Rattle.udfs_volume.specs.Answers.{found}
use Rattle.udfs_volume.specs.declared.profiles.Profile.{Profile}
use Rattle.udfs_space.specs.Places.{View, IsPartOf, view}
use Rattle.udfs_file.specs.declared.cells.Cell.{Cell}
use Rattle.udfs_walk.specs.Bare.{full_node}
use Rattle.udfs_walk.specs.UnnamedEntries.{address_of}
use Rattle.udfs_walk.specs.declared.answers.Unnamed.{Unnamed}
use Rattle.udfs_walk.specs.Cells.{HasCellsAt}
use Rattle.udfs_lost.specs.Subtrees.{OverFolders, TellsBelow}
use Rattle.udfs_lost.specs.declared.trees.LostTree.{LostTree}
use Rattle.udfs_salvage.specs.Extraction.{HasCellsInBy}
use Rattle.udfs_salvage.specs.Found.{Found}
use Rattle.udfs_salvage.specs.Reports.{Report, IsReportBy}
use Rattle.udfs_salvage.specs.WalkedNodes.{AreNodesFrom}
use Rattle.udfs_extraction.specs.LostTrees.{AreLostIn, AreLostOf, tree_report}

-- what is told of one of the trees that are written is told of the nodes of the walk from its folder, or from its file: so `written` says which bytes each file has
abbrev pub LostTreesAreWalked : Type 0
LostTreesAreWalked = (table : Table) (f : Found) (deleted : Bool) (entries : List Unnamed) (trees : List LostTree) → AreLostOf deleted (state_of table) (found f) entries trees
    → (tree : LostTree) → Contains trees tree → AreNodesFrom (state_of table) f (address_of tree.folder) (tree_report (state_of table) (found f) tree)

-- For each directory of a lawful volume's tree, over any part of the volume: where it is the folder of one of the trees that are written, what is told of that
-- tree's nodes is what the volume has at the directory's path and then theirs.
abbrev pub LostTreesAreTheVolumes : Type 0
LostTreesAreTheVolumes = OverFolders (λ all blocks root path icb. (some : View) → IsPartOf some all → (deleted : Bool) (entries : List Unnamed) (trees : List LostTree) → AreLostIn some deleted entries trees
    → (tree : LostTree) → Contains trees tree → tree.folder ≡ icb → TellsBelow some all blocks root path icb (map (full_node some) tree.nodes.items))

-- a report of a volume that opens has the nodes from the volume's root, and the cells that are theirs are those of the report's
pub record IsWalked (profile : Profile) (blocks : Blocks) (last : ℕ) (report : Report) (f : Found) : Type 0 where
  pub nodes : AreNodesFrom blocks f f.root report
  pub cells : (index : ℕ) (cs : List Cell) → HasCellsAt (view blocks f.space) f.root index cs → HasCellsInBy profile blocks last index cs

-- each report is
abbrev pub ReportsAreWalked : Type 0
ReportsAreWalked = (profile : Profile) (blocks : Blocks) (last : ℕ) (report : Report) (f : Found) → IsReportBy profile blocks last report → report.volume ≡ found f → IsWalked profile blocks last report f
