use Rattle.std.proofs.Common.{ap, refl, subst}
use Rattle.std.specs.String.{string_bytes}
use Rattle.udfs_salvage.specs.Found.{found_now, volume_now}
use Rattle.udfs_salvage.specs.StorePrinting.{PassesOnBy}
use Rattle.udfs_overview.proofs.SeenNodes.{seen_lines}
use Rattle.udfs_overview.proofs.node_list.put_lines.Goals as goal

pub returns-in-Open-clause-printed : goal.returns-in-Open-clause-printed
returns-in-Open-clause-printed g c told =
    let W = g.W.Sink in
    let ns = c.args.nodes.now in
    subst (λ lines. PassesOnBy (W.stream c.args.sink.now) (W.stream c.put_full_all.new.sink) (string_bytes c.args.text.now) (string_bytes c.put_full_all.new.text) lines c.put_full_all.result)
    (seen_lines c.args.form (g.B.BlockStore.states c.args.blocks.now) (volume_now c.args.volume.now) (found_now c.in-Open.opened) _ ns ns (ap volume_now c.in-Open.is) c.view_by-view.ensures.value refl) (c.put_full_all.ensures.printed told)
