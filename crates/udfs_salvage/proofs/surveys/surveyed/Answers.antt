use Rattle.udfs_salvage.specs.Found.{volume_now}
use Rattle.udfs_salvage.specs.Listings.{listing_by}
use Rattle.udfs_salvage.proofs.Surveying.{entries_same, nodes_same}
use Rattle.std.proofs.Common.{refl}
use Rattle.udfs_salvage.proofs.surveys.surveyed.Goals as goal

pub returns-clause-report : goal.returns-clause-report
returns-clause-report g c told profile last is =
    let l = c.args.listing in
    let M = g.B.BlockStore.states l.table.now in
    let now = listing_by g.B.BlockStore.states l in
    λ i. record {
      volume = now.volume;
      nodes = nodes_same M now.volume now l.nodes.items is.by_volume refl i;
      unnamed = entries_same M now.volume c.in_ok-unnamed.unnamed.items now.nodes (c.in_ok-unnamed.ensures.entries told) i;
      reread = c.in_ok-reread.ensures.value told i;
    }
