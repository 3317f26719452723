use Rattle.std.proofs.Common.{subst}
use Rattle.udfs_lattice.specs.Volumes.{Blocks}
use Rattle.udfs_reading.specs.Writing.{Wrote}
use Rattle.udfs_overview.specs.NodeLists.{list_text}
use Rattle.udfs_salvage.specs.StorePrinting.{leaves_as}
use Rattle.udfs_salvage.specs.Listings.{listing_by}
use Rattle.udfs_salvage.specs.Printing.{Stopped}
use Rattle.udfs_salvage.proofs.StoreAnswers.{states_same}
use Rattle.udfs_reports.proofs.list.print_nodes.Goals as goal

pub returns-in-Ok-clause-lines : goal.returns-in-Ok-clause-lines
returns-in-Ok-clause-lines g c told t holds =
    let O = g.O.Sink in
    let blocks = c.args.listing.now.table.now in
    let same = states_same (g.B.BlockStore.states blocks) t (g.met.B.ReportStore.held blocks t holds) in
    subst (λ (bs : Blocks). Wrote (O.stream c.args.out.now) (O.stream c.write_listing_by.new.sink) (list_text c.args.form bs (listing_by g.B.BlockStore.states c.args.listing.now))) same (c.in-Ok.ensures.printed told)

pub returns-in-Err-clause-lines : goal.returns-in-Err-clause-lines
returns-in-Err-clause-lines g c told t holds =
    let O = g.O.Sink in
    let blocks = c.args.listing.now.table.now in
    let same = states_same (g.B.BlockStore.states blocks) t (g.met.B.ReportStore.held blocks t holds) in
    subst (λ (bs : Blocks). Stopped (O.stream c.args.out.now) (O.stream c.write_listing_by.new.sink) (list_text c.args.form bs (listing_by g.B.BlockStore.states c.args.listing.now)) (leaves_as c.in-Err.why)) same (c.in-Err.ensures.printed told)
