-- What is asked for of the listed blocks so far.
use Rattle.std.proofs.Common.{take}
use Rattle.udfs_witnesses.specs.Adding.{IsNext}
use Rattle.udfs_witnesses.specs.Groups.{AreGrouped}
use Rattle.udfs_witnesses.proofs.grouping.grouped.Given as goal

abbrev pub invariant-loop-block : goal.invariant-loop-block
invariant-loop-block g l = g.B.BlockStore.tells → record {
  grouped : AreGrouped (g.B.BlockStore.states l.blocks) l.last l.size (take l.block-index l.listed) l.asked.items;
  next : IsNext l.asked.items l.next;
}
