-- The trees of the sample volumes, and of any view with the same nodes: a root with the files A and B.
--     SampleTree     they are lawful, and the paths A and B lead to files of them
use Rattle.std.specs.Prelude.{[], ◌∷◌}
use Rattle.udfs_volume.specs.Sample.{Maps}
use Rattle.udfs_space.specs.Places.{View}
use Rattle.udfs_file.specs.Complete.{IsComplete}
use Rattle.udfs_file.specs.Sample.{sample_root}
use Rattle.udfs_walk.specs.Sample.{AreNodesIn}
use Rattle.udfs_walk.specs.Lawful.{IsLawfulTree}
use Rattle.udfs_walk.specs.Trees.{PartitionBlocks, TreeFile, InTree}

-- whatever gives the blocks, the paths A and B lead to files
pub record HasSampleFiles (blocks : PartitionBlocks) : Type 0 where
  pub a : (file : TreeFile) × InTree blocks sample_root ((0x41 ∷ []) ∷ []) file
  pub b : (file : TreeFile) × InTree blocks sample_root ((0x42 ∷ []) ∷ []) file

-- a tree of these nodes is lawful in any view, and whatever gives its blocks, it has the files A and B
abbrev pub SampleTree : Type 0
SampleTree = (v : View) (maps : Maps) → AreNodesIn v maps → IsLawfulTree v sample_root
    × ((blocks : PartitionBlocks) → IsComplete v blocks → HasSampleFiles blocks)
