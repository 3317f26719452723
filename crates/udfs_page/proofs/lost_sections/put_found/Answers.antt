use Rattle.std.proofs.Common.{ap, option_map, subst}
use Rattle.std.specs.String.{string_bytes}
use Rattle.udfs_salvage.specs.Found.{found_now, volume_now}
use Rattle.udfs_salvage.specs.StorePrinting.{PassesOnBy}
use Rattle.udfs_overview.specs.Searched.{rootless_now}
use Rattle.udfs_page.proofs.LostNodes.{faulty_seen, holes_seen, lost_seen}
use Rattle.udfs_page.proofs.lost_sections.put_found.Goals as goal

pub returns-in-Open-clause-printed : goal.returns-in-Open-clause-printed
returns-in-Open-clause-printed g c told =
    let W = g.W.Sink in
    let s = c.args.survey.now in
    let M = g.B.BlockStore.states s.table.now in
    let lost = c.args.lost.now in
    subst (λ t. PassesOnBy (W.stream c.args.sink.now) (W.stream c.put_lost_in.new.sink) (string_bytes c.args.text.now) (string_bytes c.put_lost_in.new.text) t c.put_lost_in.result)
    (lost_seen M (volume_now s.volume) (found_now c.in-Open.opened) _ _ _ s.nodes.items _ s.unnamed.items _ lost.trees.items
    (option_map (rootless_now M) lost.rootless) (ap volume_now c.in-Open.is) c.view_by.ensures.value c.has_two_partitions.ensures c.deref.ensures.value c.deref-in-Open.ensures.value c.deref-in-Open-2.ensures.value) (c.put_lost_in.ensures.printed told)

pub returns-in-Holes-clause-printed : goal.returns-in-Holes-clause-printed
returns-in-Holes-clause-printed g c told =
    let W = g.W.Sink in
    let s = c.args.survey.now in
    let M = g.B.BlockStore.states s.table.now in
    let lost = c.args.lost.now in
    subst (λ t. PassesOnBy (W.stream c.args.sink.now) (W.stream c.put_rootless.new.sink) (string_bytes c.args.text.now) (string_bytes c.put_rootless.new.text) t c.put_rootless.result)
    (holes_seen M (volume_now s.volume) _ (option_map (rootless_now M) lost.rootless) s.nodes.items s.unnamed.items lost.trees.items (ap volume_now c.in-Holes.is)) (c.put_rootless.ensures.printed told)

pub returns-in-Fault-clause-printed : goal.returns-in-Fault-clause-printed
returns-in-Fault-clause-printed g c told =
    let W = g.W.Sink in
    let s = c.args.survey.now in
    let M = g.B.BlockStore.states s.table.now in
    let lost = c.args.lost.now in
    subst (λ t. PassesOnBy (W.stream c.args.sink.now) (W.stream c.put_rootless-in-Fault.new.sink) (string_bytes c.args.text.now) (string_bytes c.put_rootless-in-Fault.new.text) t c.put_rootless-in-Fault.result)
    (faulty_seen M (volume_now s.volume) _ (option_map (rootless_now M) lost.rootless) s.nodes.items s.unnamed.items lost.trees.items (ap volume_now c.in-Fault.is)) (c.put_rootless-in-Fault.ensures.printed told)
