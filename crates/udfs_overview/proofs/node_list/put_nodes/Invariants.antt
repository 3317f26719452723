use Rattle.std.proofs.Common.{false, take}
use Rattle.std.specs.Prelude.{flat_map}
use Rattle.std.specs.String.{string_bytes}
use Rattle.udfs_reading.specs.Writing.{Passed}
use Rattle.udfs_overview.specs.NodeLists.{listed}
use Rattle.udfs_overview.proofs.node_list.put_nodes.Given as goal

-- the lines so far
abbrev pub invariant-loop-node : goal.invariant-loop-node
invariant-loop-node g l =
    let W = g.W.Sink in
    Passed (W.stream l.fn.sink) (W.stream l.sink) (string_bytes l.fn.text) (string_bytes l.text)
    (flat_map (listed l.form false) (take l.node-index l.nodes))
