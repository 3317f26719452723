use Rattle.udfs_common.proofs.TakingLemmas.{alone_is, alone_taken, blamed_here}
use Rattle.udfs_common.proofs.taking.take_alone.Goals as goal

pub returns-in-Ok-clause-table : goal.returns-in-Ok-clause-table
returns-in-Ok-clause-table g c =
    let t = c.in-Ok.ensures.table in
    alone_taken _ c.args.one.now t.0 _ _ t.1 t.2

pub returns-in-Err-clause-blamed : goal.returns-in-Err-clause-blamed
returns-in-Err-clause-blamed g c =
    blamed_here _ _ c.args.one.now _ c.args.number _ _ _ _ (alone_is c.args.one.now c.index-one-0.result c.requires) c.reason-why.ensures c.in-Err.ensures.fails c.refusal_with.ensures.value
