use Rattle.std.proofs.Common.{◌∙◌}
use Rattle.serde_json.proofs.Views.{view-Array}
use Rattle.udfs_salvage.specs.JsonNodes.{hole_data}
use Rattle.udfs_salvage.proofs.JsonLists.{listed_all, listed_more}
use Rattle.udfs_salvage.proofs.json_nodes.holes_value.Goals as goal

pub loop-hole-preserved : goal.loop-hole-preserved
loop-hole-preserved c =
    listed_more hole_data c.args.holes.now c.loop-hole.hole-index (0, 0) c.loop-hole.items.items c.push.new.self.items c.in_ok-hole_value.field-0 c.loop-hole-test.true c.loop-hole.invariant
    c.in_ok-hole_value.ensures c.in_ok-push.ensures.items

pub returns : goal.returns
returns c = view-Array c.loop-hole.items ∙ listed_all hole_data c.args.holes.now c.loop-hole.hole-index c.loop-hole.items.items c.loop-hole-test.false c.loop-hole.invariant
