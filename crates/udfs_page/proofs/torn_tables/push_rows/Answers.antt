use Rattle.std.specs.String.{string_bytes}
use Rattle.udfs_page.specs.TornTables.{row_html}
use Rattle.udfs_page.proofs.Texts.{text_more}
use Rattle.udfs_page.proofs.torn_tables.push_rows.Goals as goal

pub loop-row-preserved : goal.loop-row-preserved
loop-row-preserved c =
    text_more row_html c.args.rows.now c.loop-row.row-index c.row-item.result (string_bytes c.args.text.now) (string_bytes c.loop-row.text) (string_bytes c.push_row.new.text)
    c.loop-row-test.true c.row-item.is c.loop-row.invariant c.in_ok-push_row.ensures
