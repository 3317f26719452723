-- The numbers so far rise, and are below the next.
use Rattle.std.proofs.Common.{take}
use Rattle.udfs_volume.specs.Seen.{IsRising}
use Rattle.udfs_witnesses.specs.Adding.{IsNext}
use Rattle.udfs_witnesses.proofs.fronts.count_rising.Given as goal

abbrev pub invariant-loop-i : goal.invariant-loop-i
invariant-loop-i l = record {
  rises : IsRising (take l.i l.numbers);
  next : IsNext (take l.i l.numbers) l.next;
}
