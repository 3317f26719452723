use Rattle.std.proofs.Common.{◌∙◌}
use Rattle.serde_json.proofs.Views.{view-Array}
use Rattle.udfs_lattice.specs.Tables.{state_of}
use Rattle.udfs_salvage.specs.JsonReports.{reread_data}
use Rattle.udfs_salvage.proofs.JsonLists.{listed_all, listed_more}
use Rattle.udfs_salvage.proofs.json_reports.rereads_value.Goals as goal

pub loop-block-preserved : goal.loop-block-preserved
loop-block-preserved c =
    listed_more (reread_data (state_of c.args.table.now)) c.args.blocks.now c.loop-block.block-index 0 c.loop-block.items.items c.push.new.self.items c.in_ok-reread_value.field-0
    c.loop-block-test.true c.loop-block.invariant (c.in_ok-reread_value.ensures.value tt) c.in_ok-push.ensures.items

pub returns : goal.returns
returns c = view-Array c.loop-block.items ∙ listed_all (reread_data (state_of c.args.table.now)) c.args.blocks.now c.loop-block.block-index c.loop-block.items.items
    c.loop-block-test.false c.loop-block.invariant
