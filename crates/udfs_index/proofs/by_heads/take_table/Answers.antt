use Rattle.udfs_index.proofs.HeadLemmas.{table_taken}
use Rattle.udfs_index.proofs.by_heads.take_table.Goals as goal

pub returns-in-Ok : goal.returns-in-Ok
returns-in-Ok g c =
    let found = c.in-Some.ensures in
    let ok = c.in-Ok.ensures in
    table_taken (g.S.Stored.content c.args.stored.now) c.in-Some.head.size c.in-Some.head.count ok.0 (found.taken _ c.requires).many found.given ok.1
