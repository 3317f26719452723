-- Nodes that were found from some root.
--     AreNodesFrom blocks f root report    the nodes of a report are those from this root, as from a lost folder
use Rattle.std.specs.Prelude.{◌≡◌}
use Rattle.udfs_lattice.specs.Volumes.{Blocks}
use Rattle.udfs_tag.specs.declared.layouts.LongAd.{LongAd}
use Rattle.udfs_volume.specs.Answers.{found}
use Rattle.udfs_space.specs.Places.{view}
use Rattle.udfs_walk.specs.Walks.{AreNodes}
use Rattle.udfs_salvage.specs.Found.{Found}
use Rattle.udfs_salvage.specs.Reports.{Report}

-- they are the nodes of the walk from this root, which need not be the volume's, in the volume that is found
pub record AreNodesFrom (blocks : Blocks) (f : Found) (root : LongAd) (report : Report) : Type 0 where
  pub opens : report.volume ≡ found f
  pub nodes_are : AreNodes (view blocks f.space) root report.nodes
