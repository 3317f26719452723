use Rattle.std.proofs.Common.{◌≡◌, inl, refl, rules}
use Rattle.udfs_remarks.specs.NoReports.{salvage_refusal_of}
use Rattle.udfs_salvage.specs.Listings.{listing_by}
use Rattle.udfs_reports.specs.Listing.{list_of}
use Rattle.udfs_reports.specs.Telling.{IsThe}
use Rattle.udfs_reports.proofs.ToldTexts.{text_begun, text_out, text_stopped, text_told}
use Rattle.udfs_reports.proofs.list.NodeLinesTelling.tell.Goals as goal

pub returns-in-Err-Salvage-clause-refused : goal.returns-in-Err-Salvage-clause-refused
returns-in-Err-Salvage-clause-refused g c told table holds =
    let same : c.refused_report.result ≡ salvage_refusal_of c.in-Err-Salvage.error = search rules in
    let refused = rw c.in-Err-Salvage.field-0-is at (c.in-Err-Salvage.ensures.refused told table holds) in
    inl (refl, rw same refused)

pub returns-in-Err-Unread-clause-begun : goal.returns-in-Err-Unread-clause-begun
returns-in-Err-Unread-clause-begun g c told table holds = inl refl

pub returns-in-Err-Run-clause-refused : goal.returns-in-Err-Run-clause-refused
returns-in-Err-Run-clause-refused g c told table holds =
    let lines = c.in-Err-Run.ensures.lines told table (rw c.in-Ok.ensures.of holds) in
    text_stopped (IsThe (list_of c.args.self.now.form)) c.args.profile c.args.last table (listing_by g.B.BlockStore.states c.in-Ok.listing) _ (g.O.Sink.stream c.print_nodes.new.out) (c.in-Ok.ensures.headline told table holds) _ refl c.in-Err-Run.error _ (rw c.in-Err-Run.field-0-is at lines) (search rules)

pub returns-in-Err-Unread-print_nodes-clause-begun : goal.returns-in-Err-Unread-print_nodes-clause-begun
returns-in-Err-Unread-print_nodes-clause-begun g c told table holds =
    let lines = c.in-Err-Unread-print_nodes.ensures.lines told table (rw c.in-Ok.ensures.of holds) in
    text_begun (IsThe (list_of c.args.self.now.form)) c.args.profile c.args.last table (listing_by g.B.BlockStore.states c.in-Ok.listing) _ (g.O.Sink.stream c.print_nodes.new.out) (c.in-Ok.ensures.headline told table holds) _ refl (rw c.in-Err-Unread-print_nodes.field-0-is at lines)

pub returns-then-not-is_steady-clause-begun : goal.returns-then-not-is_steady-clause-begun
returns-then-not-is_steady-clause-begun g c told table holds =
    text_out (IsThe (list_of c.args.self.now.form)) c.args.profile c.args.last table (listing_by g.B.BlockStore.states c.in-Ok.listing) _ (g.O.Sink.stream c.print_nodes.new.out) (c.in-Ok.ensures.headline told table holds) _ refl (c.in-Ok-print_nodes.ensures.lines told table (rw c.in-Ok.ensures.of holds))

pub returns-clause-printed : goal.returns-clause-printed
returns-clause-printed g c told table holds =
    text_told (IsThe (list_of c.args.self.now.form)) c.args.profile c.args.last table (listing_by g.B.BlockStore.states c.in-Ok.listing) _ (g.O.Sink.stream c.print_nodes.new.out) (c.in-Ok.ensures.headline told table holds) _ refl _ (c.in-Ok-print_nodes.ensures.lines told table (rw c.in-Ok.ensures.of holds)) c.in-Ok-print_nodes.ensures.whole
