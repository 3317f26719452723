use Rattle.udfs_salvage.specs.Found.{volume_now}
use Rattle.udfs_salvage.specs.Listings.{full_in}
use Rattle.udfs_extraction.proofs.ListedLemmas.{at_index}
use Rattle.udfs_extraction.proofs.node_files.node_at.Goals as goal

pub returns : goal.returns
returns g c =
    let l = c.args.listing.now in
    at_index (full_in (g.B.BlockStore.states l.table.now) (volume_now l.volume)) l.nodes.items c.args.index c.index.result.now c.requires c.index.ensures
