use Rattle.std.proofs.Common.{◌≡◌, length, refl, rules}
use Rattle.udfs_index.proofs.HeadLemmas.{read_behind, three_numbers}
use Rattle.udfs_index.proofs.heads.head_at.Goals as goal

pub returns-in-Ok-true : goal.returns-in-Ok-true
returns-in-Ok-true g c =
    let content = g.S.Stored.content c.args.stored.now in
    let buf = c.fill.new.buf in
    let long : length buf ≡ 12 = search rules in
    read_behind content c.args.at 12 _ buf _ refl long (c.in-Ok-true.ensures.whole c.in-Ok-true.field-0-test)
    (three_numbers buf _ _ _ long c.number_at.ensures c.number_at-in-Ok-true.ensures c.number_at-in-Ok-true-2.ensures)
