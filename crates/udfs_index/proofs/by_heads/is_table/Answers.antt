use Rattle.udfs_index.proofs.by_heads.is_table.Goals as goal

pub returns-in-Ok : goal.returns-in-Ok
returns-in-Ok g c = λ _. (c.in-Ok.ensures.table, c.in-Ok.ensures.has)
