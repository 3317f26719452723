use Rattle.std.proofs.Common.{◌∙◌}
use Rattle.serde_json.proofs.Views.{view-Array}
use Rattle.udfs_salvage.specs.JsonNodes.{unnamed_data}
use Rattle.udfs_salvage.proofs.JsonLists.{listed_all, listed_item}
use Rattle.udfs_salvage.proofs.json_nodes.all_unnamed_value.Goals as goal

pub loop-entry-preserved : goal.loop-entry-preserved
loop-entry-preserved c =
    listed_item (unnamed_data c.args.two) c.args.entries.now c.loop-entry.entry-index c.entry-item.result c.loop-entry.items.items c.push.new.self.items c.in_ok-unnamed_value.field-0 c.loop-entry-test.true c.loop-entry.invariant
    c.entry-item.is c.in_ok-unnamed_value.ensures c.in_ok-push.ensures.items

pub returns : goal.returns
returns c = view-Array c.loop-entry.items ∙ listed_all (unnamed_data c.args.two) c.args.entries.now c.loop-entry.entry-index c.loop-entry.items.items c.loop-entry-test.false c.loop-entry.invariant
