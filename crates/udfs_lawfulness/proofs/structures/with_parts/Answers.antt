use Rattle.std.proofs.Common.{◌∙◌}
use Rattle.udfs_volume.specs.LayoutParts.{parts_now}
use Rattle.udfs_lawfulness.specs.Structures.{of_space}
use Rattle.udfs_lawfulness.specs.declared.answers.Reason.TheVariants.{Fault}
use Rattle.udfs_lawfulness.proofs.Contradicted.{contradicted}
use Rattle.udfs_lawfulness.proofs.Judged.{partitions_reason_is}
use Rattle.udfs_lawfulness.proofs.Steps.{reason_of}
use Rattle.udfs_lawfulness.proofs.structures.with_parts.Goals as goal

pub returns-in-Some-clause-judged : goal.returns-in-Some-clause-judged
returns-in-Some-clause-judged g c told = contradicted c.args.profile (g.B.BlockStore.states c.args.blocks.now) c.args.last c.in-Some.reason (rw c.in-Some.is at (c.in_ok-apart.ensures.value told c.args.profile))

pub returns-in-Some-of_tables-clause-judged : goal.returns-in-Some-of_tables-clause-judged
returns-in-Some-of_tables-clause-judged g c told =
    let M = g.B.BlockStore.states c.args.blocks.now in
    contradicted c.args.profile M c.args.last c.in-Some-of_tables.reason
    (partitions_reason_is c.args.profile M c.args.last (parts_now c.args.parts.now) c.in-Some-of_tables.reason (c.requires.finds told)
    (reason_of M c.args.parts.now c.deref.result.now c.in_ok-of_tables.of_tables c.deref.ensures.value (c.in_ok-of_tables.ensures.value told) ∙ c.in-Some-of_tables.is))

pub returns-in-Some-fault-clause-judged : goal.returns-in-Some-fault-clause-judged
returns-in-Some-fault-clause-judged g c told = contradicted c.args.profile (g.B.BlockStore.states c.args.blocks.now) c.args.last (Fault c.in-Some-fault.fault)
    (of_space (parts_now c.args.parts.now) (c.requires.finds told) (rw c.in-Some-fault.is at (c.in_ok-fault.ensures.value told)))
