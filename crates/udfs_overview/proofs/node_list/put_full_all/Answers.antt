use Rattle.std.proofs.Common.{ap, map, subst, ◌∙◌}
use Rattle.std.specs.Prelude.{flat_map}
use Rattle.std.specs.String.{string_bytes}
use Rattle.udfs_space.specs.Views.{view_by}
use Rattle.udfs_walk.specs.Bare.{full_node}
use Rattle.udfs_overview.specs.NodeLists.{listed_in}
use Rattle.udfs_salvage.specs.StorePrinting.{PassesOnBy}
use Rattle.udfs_overview.proofs.Places.{behind_first}
use Rattle.udfs_overview.proofs.node_list.put_full_all.Goals as goal

pub returns-clause-printed : goal.returns-clause-printed
returns-clause-printed g c told =
    let W = g.W.Sink in
    let view = view_by g.B.BlockStore.states c.args.view in
    let f = full_node view in
    subst (λ ns. PassesOnBy (W.stream c.args.sink.now) (W.stream c.put_full_nodes.new.sink) (string_bytes c.args.text.now) (string_bytes c.put_full_nodes.new.text)
    (flat_map (listed_in c.args.form view) ns) c.put_full_nodes.result) (ap (map f) c.behind_root.ensures ∙ behind_first f c.args.nodes.now) (c.put_full_nodes.ensures.printed told)
