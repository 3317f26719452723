use Rattle.std.proofs.Common.{refl, sym}
use Rattle.serde_json.proofs.Views.{view-Object}
use Rattle.udfs_salvage.specs.JsonNodes.{node_data, told_members}
use Rattle.udfs_salvage.proofs.json_nodes.node_value.Goals as goal

pub returns-then-tail : goal.returns-then-tail
unfolding node_data told_members
returns-then-tail c =
    let t = c.if-tail.true in
    rw (view-Object c.put-then-tail.new.map, c.in_ok-put-3.ensures.ok, c.in_ok-put-2.ensures.ok, c.in_ok-put.ensures.ok, c.in_ok-members.ensures, c.in_ok-path.ensures, c.from.ensures, c.from-then-tail.ensures, t, sym c.node.view_is) refl

pub returns : goal.returns
unfolding node_data told_members
returns c =
    let t = c.if-tail.false in
    rw (view-Object c.put-2.new.map, c.in_ok-put-2.ensures.ok, c.in_ok-put.ensures.ok, c.in_ok-members.ensures, c.in_ok-path.ensures, c.from.ensures, t, sym c.node.view_is) refl
