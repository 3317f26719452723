use Rattle.std.proofs.Common.{List, map, refl}
use Rattle.udfs_volume.specs.Answers.{found}
use Rattle.udfs_walk.specs.NodeFields.{NodeFields}
use Rattle.udfs_walk.specs.Rereads.{reread}
use Rattle.udfs_salvage.specs.Found.{found_now}
use Rattle.udfs_salvage.specs.Listings.{full_in}
use Rattle.udfs_salvage.proofs.Rereads.{reread_rises}
use Rattle.udfs_salvage.proofs.listings.list_open.Goals as goal

pub returns-clause-rising : goal.returns-clause-rising
returns-clause-rising g c =
    let nodes : List NodeFields = map (full_in (g.B.BlockStore.states c.args.blocks.now) (found (found_now c.args.opened))) c.in_ok-nodes.nodes.items in
    reread_rises (reread nodes) nodes refl
