use Rattle.std.proofs.Common.{◌≡◌, ◌∙◌, length, refl, rules, sym}
use Rattle.udfs_index.proofs.HeadLemmas.{is_header, read_behind}
use Rattle.udfs_index.proofs.heads.read_count.Goals as goal

pub returns-then-names_table : goal.returns-then-names_table
returns-then-names_table g c =
    let content = g.S.Stored.content c.args.stored.now in
    let buf = c.fill.new.buf in
    let long : length buf ≡ 16 = search rules in
    read_behind content 0 16 16 buf _ refl long (c.in-Ok-true.ensures.whole c.in-Ok-true.field-0-test)
    (is_header buf c.front_of.result.now c.number_at.result long c.front_of.ensures (sym c.names_table.ensures ∙ c.if-names_table.true) c.number_at.ensures)
