use Rattle.std.proofs.Common.{false, subst}
use Rattle.std.specs.Prelude.{flat_map}
use Rattle.std.specs.String.{string_bytes}
use Rattle.udfs_salvage.specs.Printing.{PassesOn}
use Rattle.udfs_overview.specs.NodeLists.{listed}
use Rattle.udfs_overview.proofs.node_list.put_all.Goals as goal

pub returns : goal.returns
returns g c =
    let W = g.W.Sink in
    subst (λ ns. PassesOn (W.stream c.args.sink.now) (W.stream c.put_nodes.new.sink) (string_bytes c.args.text.now) (string_bytes c.put_nodes.new.text)
    (flat_map (listed c.args.form false) ns) c.put_nodes.result) c.behind_root.ensures c.put_nodes.ensures
