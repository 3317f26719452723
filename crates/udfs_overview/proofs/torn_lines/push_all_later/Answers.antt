use Rattle.std.specs.String.{string_bytes}
use Rattle.udfs_overview.specs.TornLists.{later_line}
use Rattle.udfs_overview.proofs.Chains.{text_more}
use Rattle.udfs_overview.proofs.torn_lines.push_all_later.Goals as goal

pub loop-row-preserved : goal.loop-row-preserved
loop-row-preserved c =
    text_more (later_line c.args.rows.now) c.args.others.now c.loop-row.row-index c.row-item.result (string_bytes c.args.text.now) (string_bytes c.loop-row.text) (string_bytes c.push_later.new.text)
    c.loop-row-test.true c.row-item.is c.loop-row.invariant c.in_ok-push_later.ensures
