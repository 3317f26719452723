use Rattle.udfs_lawfulness.proofs.Contradicted.{contradicted}
use Rattle.udfs_lawfulness.proofs.structures.without_parts.Goals as goal

pub returns-in-Some-clause-judged : goal.returns-in-Some-clause-judged
returns-in-Some-clause-judged g c told = contradicted c.args.profile (g.B.BlockStore.states c.args.blocks.now) c.args.last c.in-Some.reason (rw c.in-Some.is at (c.in_ok-reason.ensures.value told c.args.profile))
