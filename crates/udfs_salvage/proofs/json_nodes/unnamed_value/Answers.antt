use Rattle.std.proofs.Common.{refl}
use Rattle.serde_json.proofs.Views.{view-Object}
use Rattle.udfs_salvage.specs.JsonNodes.{unnamed_data, told_members}
use Rattle.udfs_salvage.proofs.json_nodes.unnamed_value.Goals as goal

pub returns-then-two : goal.returns-then-two
unfolding unnamed_data told_members
returns-then-two c = let t = c.if-two.true in rw (view-Object c.put-then-two.new.map, c.in_ok-put-2.ensures.ok, c.in_ok-put.ensures.ok, c.in_ok-members.ensures, c.from.ensures, c.from-then-two.ensures, t) refl

pub returns : goal.returns
unfolding unnamed_data told_members
returns c = let t = c.if-two.false in rw (view-Object c.put.new.map, c.in_ok-put.ensures.ok, c.in_ok-members.ensures, c.from.ensures, t) refl
