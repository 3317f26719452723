use Rattle.std.proofs.Common.{ap, option_map, subst}
use Rattle.std.specs.String.{string_bytes}
use Rattle.udfs_salvage.specs.Found.{found_now, volume_now}
use Rattle.udfs_salvage.specs.StorePrinting.{PassesOnBy}
use Rattle.udfs_overview.specs.Searched.{rootless_now}
use Rattle.udfs_overview.proofs.LostPieces.{faulty_seen, holes_seen, lost_seen}
use Rattle.udfs_overview.proofs.lost_list.put_lost.Goals as goal

pub returns-in-Open-clause-printed : goal.returns-in-Open-clause-printed
returns-in-Open-clause-printed g c told =
    let W = g.W.Sink in
    let s = c.args.survey.now in
    let lost = c.args.lost.now in
    subst (λ lines. PassesOnBy (W.stream c.args.sink.now) (W.stream c.put_lost_in.new.sink) (string_bytes c.args.text.now) (string_bytes c.put_lost_in.new.text) lines c.put_lost_in.result)
    (lost_seen c.args.form c.args.deleted (g.B.BlockStore.states s.table.now) (volume_now s.volume) (found_now c.in-Open.opened) _ _ _ s.nodes.items _ s.unnamed.items _ lost.trees.items
    (option_map (rootless_now (g.B.BlockStore.states s.table.now)) lost.rootless) (ap volume_now c.in-Open.is) c.view_by.ensures.value c.has_two_partitions.ensures c.deref.ensures.value c.deref-in-Open.ensures.value c.deref-in-Open-2.ensures.value) (c.put_lost_in.ensures.printed told)

pub returns-in-Holes-clause-printed : goal.returns-in-Holes-clause-printed
returns-in-Holes-clause-printed g c told =
    let W = g.W.Sink in
    let s = c.args.survey.now in
    let lost = c.args.lost.now in
    subst (λ lines. PassesOnBy (W.stream c.args.sink.now) (W.stream c.put_rootless.new.sink) (string_bytes c.args.text.now) (string_bytes c.put_rootless.new.text) lines c.put_rootless.result)
    (holes_seen c.args.form c.args.deleted (g.B.BlockStore.states s.table.now) (volume_now s.volume) _ (option_map (rootless_now (g.B.BlockStore.states s.table.now)) lost.rootless) s.nodes.items s.unnamed.items lost.trees.items (ap volume_now c.in-Holes.is)) (c.put_rootless.ensures.printed told)

pub returns-in-Fault-clause-printed : goal.returns-in-Fault-clause-printed
returns-in-Fault-clause-printed g c told =
    let W = g.W.Sink in
    let s = c.args.survey.now in
    let lost = c.args.lost.now in
    subst (λ lines. PassesOnBy (W.stream c.args.sink.now) (W.stream c.put_rootless-in-Fault.new.sink) (string_bytes c.args.text.now) (string_bytes c.put_rootless-in-Fault.new.text) lines c.put_rootless-in-Fault.result)
    (faulty_seen c.args.form c.args.deleted (g.B.BlockStore.states s.table.now) (volume_now s.volume) _ (option_map (rootless_now (g.B.BlockStore.states s.table.now)) lost.rootless) s.nodes.items s.unnamed.items lost.trees.items (ap volume_now c.in-Fault.is)) (c.put_rootless-in-Fault.ensures.printed told)
