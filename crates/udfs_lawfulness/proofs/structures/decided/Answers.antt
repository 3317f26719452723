use Rattle.std.proofs.Common.{map}
use Rattle.udfs_volume.specs.LayoutParts.{partition_now}
use Rattle.udfs_lawfulness.specs.Tables.{table_blocks}
use Rattle.udfs_lawfulness.proofs.Judged.{sound, undecided}
use Rattle.udfs_lawfulness.proofs.Steps.{asked_by, nothing, something}
use Rattle.udfs_lawfulness.proofs.structures.decided.Goals as goal

pub returns-then-is_none-clause-judged : goal.returns-then-is_none-clause-judged
returns-then-is_none-clause-judged g c told =
    let M = g.B.BlockStore.states c.args.blocks.now in
    let listed = c.in_ok-unread.unread.items in
    λ profile clear tables. sound profile M c.args.last listed clear
    (asked_by profile M c.args.last listed (table_blocks (map partition_now c.args.partitions.now)) (c.in_ok-unread.ensures.value told) tables)
    (nothing c.deref.result.now listed c.is_none.result c.deref.ensures.value c.is_none.ensures c.if-is_none.true)

pub returns-clause-judged : goal.returns-clause-judged
returns-clause-judged g c told =
    let M = g.B.BlockStore.states c.args.blocks.now in
    let listed = c.in_ok-unread.unread.items in
    λ profile clear tables. undecided profile M c.args.last listed clear
    (asked_by profile M c.args.last listed (table_blocks (map partition_now c.args.partitions.now)) (c.in_ok-unread.ensures.value told) tables)
    (something c.deref.result.now listed c.is_none.result c.deref.ensures.value c.is_none.ensures c.if-is_none.false)
