use Rattle.std.proofs.Common.{◌≡◌, ◌∙◌, Err, ap, inl, inr, refl, sym}
use Rattle.udfs_salvage.specs.Listings.{listing_by}
use Rattle.udfs_extraction.specs.LostPlaces.{lost_report}
use Rattle.udfs_extraction.specs.declared.stopping.Stop.TheVariants.{Unread}
use Rattle.udfs_extraction.proofs.ExtractLemmas.{adding_stops, beyond_stops, listing_stops, made, unfound}
use Rattle.udfs_extraction.proofs.LostLemmas.{nothing_added}
use Rattle.udfs_extraction.proofs.StopLemmas.{stopped_is, unread_is, unread_of}
use Rattle.udfs_extraction.proofs.making.make_listed.Goals as goal

pub returns-in-Err-clause-why : goal.returns-in-Err-clause-why
returns-in-Err-clause-why g c known =
    let states = g.B.BlockStore.states in
    let l = c.args.listing in
    let r = c.args.request.now in
    record {
      why = stopped_is _ _ _ _ c.unsearched.ensures
          (unfound r.deleted r.trees (states l.table.now) (lost_report r.volume.profile (states l.table.now) l.last (listing_by states l)) (lost_report l.profile (states l.table.now) l.last (listing_by states l)) c.in-Err.error _ _ _ _ refl refl (ap (λ p. lost_report p (states l.table.now) l.last (listing_by states l)) c.requires.rules) (c.in-Err.ensures.refused known));
    }

pub returns-in-Err-clause-no_node : goal.returns-in-Err-clause-no_node
returns-in-Err-clause-no_node g c i is = refl

pub returns-in-Err-clause-fails : goal.returns-in-Err-clause-fails
returns-in-Err-clause-fails g c is never =
    let unread : c.unsearched.result ≡ Unread = cc in
    never (c.in-Err.ensures.fails (ap Err (unread_of c.in-Err.error (sym c.unsearched.ensures ∙ unread))))

pub returns-in-Err-clause-spares : goal.returns-in-Err-clause-spares
returns-in-Err-clause-spares g c = inl refl

pub returns-in-Err-list_report-clause-why : goal.returns-in-Err-list_report-clause-why
returns-in-Err-list_report-clause-why g c known =
    record { why = listing_stops _ g.O.Sink.stream c.args.request.now _ _ _ _ _ _ _ _ c.in-Err-list_report.stop (λ is. c.in-Err-list_report.ensures.still (unread_is _ is)) (c.in-Err-list_report.ensures.why known) }

pub returns-in-Err-list_report-clause-no_node : goal.returns-in-Err-list_report-clause-no_node
returns-in-Err-list_report-clause-no_node g c = c.in-Err-list_report.ensures.no_node

pub returns-in-Err-list_report-clause-spares : goal.returns-in-Err-list_report-clause-spares
returns-in-Err-list_report-clause-spares g c = inr (record {
  two = c.list_report.new.files;
  three = c.list_report.new.files;
  listed = c.list_report.ensures.spares;
  lost = nothing_added _ _ _;
  trees = nothing_added _ _ _;
})

pub returns-in-Err-add_lost-clause-why : goal.returns-in-Err-add_lost-clause-why
returns-in-Err-add_lost-clause-why g c known =
    let nodes = c.in-Ok-list_report.ensures.made known in
    record { why = adding_stops _ g.O.Sink.stream c.args.request.now _ _ nodes.0 c.list_report.new.files c.add_lost.new.files c.args.out.now c.list_report.new.out c.add_lost.new.out _ _ _ _ c.in-Err-add_lost.stop nodes.1 (c.in-Err-add_lost.ensures.why known) }

pub returns-in-Err-add_lost-clause-no_node : goal.returns-in-Err-add_lost-clause-no_node
returns-in-Err-add_lost-clause-no_node g c i is = absurd (c.in-Err-add_lost.ensures.no_node i is)

pub returns-in-Err-add_lost-clause-spares : goal.returns-in-Err-add_lost-clause-spares
returns-in-Err-add_lost-clause-spares g c = inr (record {
  two = c.list_report.new.files;
  three = c.add_lost.new.files;
  listed = c.list_report.ensures.spares;
  lost = c.add_lost.ensures.spares;
  trees = nothing_added _ _ _;
})

pub returns-in-Ok-put_lost-clause-made : goal.returns-in-Ok-put_lost-clause-made
returns-in-Ok-put_lost-clause-made g c known =
    let states = g.B.BlockStore.states in
    let l = c.args.listing in
    let nodes = c.in-Ok-list_report.ensures.made known in
    made _ g.O.Sink.stream c.args.request.now _ _ nodes.0 c.list_report.new.files c.add_lost.new.files c.put_lost.new.files c.args.out.now c.list_report.new.out c.add_lost.new.out c.put_lost.new.out l.last (states l.table.now) (listing_by states l) _ _ _ _ _ _ (ap (λ p. lost_report p (states l.table.now) l.last (listing_by states l)) c.requires.rules) nodes.1 (c.in-Ok-add_lost.ensures.made known) (c.in-Ok-put_lost.ensures.made known) c.is_all_good.ensures c.is_all_good-in-Ok-put_lost.ensures

pub returns-in-Ok-put_lost-clause-spares : goal.returns-in-Ok-put_lost-clause-spares
returns-in-Ok-put_lost-clause-spares g c = inr (record {
  two = c.list_report.new.files;
  three = c.add_lost.new.files;
  listed = c.list_report.ensures.spares;
  lost = c.add_lost.ensures.spares;
  trees = c.put_lost.ensures.spares;
})

pub returns-clause-spares : goal.returns-clause-spares
returns-clause-spares g c = inr (record {
  two = c.list_report.new.files;
  three = c.add_lost.new.files;
  listed = c.list_report.ensures.spares;
  lost = c.add_lost.ensures.spares;
  trees = c.put_lost.ensures.spares;
})

pub returns-clause-why : goal.returns-clause-why
returns-clause-why g c known =
    let states = g.B.BlockStore.states in
    let l = c.args.listing in
    let nodes = c.in-Ok-list_report.ensures.made known in
    record { why = beyond_stops _ g.O.Sink.stream c.args.request.now _ _ nodes.0 c.list_report.new.files c.add_lost.new.files c.put_lost.new.files c.args.out.now c.list_report.new.out c.add_lost.new.out c.put_lost.new.out l.last (states l.table.now) (listing_by states l) _ _ _ c.in-Err-put_lost.stop (ap (λ p. lost_report p (states l.table.now) l.last (listing_by states l)) c.requires.rules) nodes.1 (c.in-Ok-add_lost.ensures.made known) (c.in-Err-put_lost.ensures.why known) }

pub returns-clause-no_node : goal.returns-clause-no_node
returns-clause-no_node g c i is = absurd (c.in-Err-put_lost.ensures.no_node i is)
