use Rattle.std.proofs.Common.{◌≡◌, ◌∙◌, ap, inl, inr, option_map, refl, rules, string_bytes, subst, sym}
use Rattle.udfs_lattice.specs.Tables.{state_of}
use Rattle.udfs_lattice.specs.Volumes.{Blocks}
use Rattle.udfs_salvage.proofs.StoreAnswers.{states_same}
use Rattle.udfs_salvage.specs.Listings.{listing_by}
use Rattle.udfs_salvage.specs.Reports.{IsReportBy}
use Rattle.udfs_remarks.specs.NoReports.{salvage_refusal_of}
use Rattle.udfs_extraction.proofs.ExtractLemmas.{made_table, stopped_table}
use Rattle.udfs_extraction.proofs.StoredLemmas.{untold_store}
use Rattle.udfs_extraction.proofs.making.make_all.Goals as goal

pub returns-in-Err-Salvage-clause-why : goal.returns-in-Err-Salvage-clause-why
returns-in-Err-Salvage-clause-why g c known t holds =
    let same = states_same (g.B.BlockStore.states c.args.blocks.now) t (g.met.B.ReportStore.held c.args.blocks.now t holds) in
    let told : c.refused_report.result ≡ salvage_refusal_of c.in-Err-Salvage.error = search rules in
    inl (refl, refl, untold_store _ _ t _ c.in-Err-Salvage.field-0 c.in-Err-Salvage.error c.refused_report.result same c.in-Err-Salvage.field-0-is told (c.in-Err-Salvage.ensures.refused known))

pub returns-in-Err-Salvage-clause-no_node : goal.returns-in-Err-Salvage-clause-no_node
returns-in-Err-Salvage-clause-no_node g c i is = refl

pub returns-in-Err-Salvage-clause-spares : goal.returns-in-Err-Salvage-clause-spares
returns-in-Err-Salvage-clause-spares g c = inl refl

pub returns-in-Err-Unread-clause-why : goal.returns-in-Err-Unread-clause-why
returns-in-Err-Unread-clause-why g c known t holds = inl (refl, refl)

pub returns-in-Err-Unread-clause-spares : goal.returns-in-Err-Unread-clause-spares
returns-in-Err-Unread-clause-spares g c = inl refl

pub returns-in-Err-clause-why : goal.returns-in-Err-clause-why
returns-in-Err-clause-why g c known t holds =
    let l = c.in-Ok.listing in
    let states = g.B.BlockStore.states in
    let same = states_same (states c.args.blocks.now) t (g.met.B.ReportStore.held c.args.blocks.now t holds) in
    let listed : states l.table.now ≡ state_of t = ap states c.in-Ok.ensures.of.0 ∙ same in
    let is_report = subst (λ (bs : Blocks). IsReportBy c.args.request.now.volume.profile bs c.args.last (listing_by states l)) (sym (ap states c.in-Ok.ensures.of.0)) (c.in-Ok.ensures.report known) in
    stopped_table _ g.O.Sink.stream c.args.request.now (option_map string_bytes c.args.place.now) c.args.files.now c.make_listed.new.files c.args.out.now c.make_listed.new.out l.last c.args.last (states l.table.now) t (listing_by states l) c.in-Err.stop c.in-Ok.ensures.of.1 listed is_report (c.in-Err.ensures.why known)

pub returns-then-not-is_steady-clause-why : goal.returns-then-not-is_steady-clause-why
returns-then-not-is_steady-clause-why g c known t holds =
    let l = c.in-Ok.listing in
    let states = g.B.BlockStore.states in
    let same = states_same (states c.args.blocks.now) t (g.met.B.ReportStore.held c.args.blocks.now t holds) in
    let listed : states l.table.now ≡ state_of t = ap states c.in-Ok.ensures.of.0 ∙ same in
    let is_report = subst (λ (bs : Blocks). IsReportBy c.args.request.now.volume.profile bs c.args.last (listing_by states l)) (sym (ap states c.in-Ok.ensures.of.0)) (c.in-Ok.ensures.report known) in
    let told = made_table _ g.O.Sink.stream c.args.request.now _ _ _ _ _ l.last c.args.last (states l.table.now) t (listing_by states l) _ c.in-Ok.ensures.of.1 listed is_report (c.in-Ok-make_listed.ensures.made known) in
    inr (told.0, told.1, inr (c.in-Ok-make_listed.good, told.2))

pub returns-clause-made : goal.returns-clause-made
returns-clause-made g c known t holds =
    let l = c.in-Ok.listing in
    let states = g.B.BlockStore.states in
    let same = states_same (states c.args.blocks.now) t (g.met.B.ReportStore.held c.args.blocks.now t holds) in
    let listed : states l.table.now ≡ state_of t = ap states c.in-Ok.ensures.of.0 ∙ same in
    let is_report = subst (λ (bs : Blocks). IsReportBy c.args.request.now.volume.profile bs c.args.last (listing_by states l)) (sym (ap states c.in-Ok.ensures.of.0)) (c.in-Ok.ensures.report known) in
    made_table _ g.O.Sink.stream c.args.request.now _ _ _ _ _ l.last c.args.last (states l.table.now) t (listing_by states l) _ c.in-Ok.ensures.of.1 listed is_report (c.in-Ok-make_listed.ensures.made known)
