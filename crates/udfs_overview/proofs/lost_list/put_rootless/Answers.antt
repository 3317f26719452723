use Rattle.std.proofs.Common.{subst}
use Rattle.std.specs.String.{string_bytes}
use Rattle.udfs_salvage.specs.StorePrinting.{PassesOnBy}
use Rattle.udfs_overview.proofs.LostPieces.{rootless_seen}
use Rattle.udfs_overview.proofs.lost_list.put_rootless.Goals as goal

pub returns-in-Some-clause-printed : goal.returns-in-Some-clause-printed
returns-in-Some-clause-printed g c told =
    let W = g.W.Sink in
    let s = c.args.survey.now in
    let lost = c.args.lost.now in
    subst (λ lines. PassesOnBy (W.stream c.args.sink.now) (W.stream c.put_lost_in.new.sink) (string_bytes c.args.text.now) (string_bytes c.put_lost_in.new.text) lines c.put_lost_in.result)
    (rootless_seen c.args.form c.args.deleted (g.B.BlockStore.states s.table.now) lost.rootless c.in-Some.found _ _ _ s.nodes.items _ _ lost.trees.items c.in-Some.is c.view_by.ensures.value c.has_two.ensures c.deref.ensures.value c.deref-in-Some.ensures.value c.deref-in-Some-2.ensures.value) (c.put_lost_in.ensures.printed told)
