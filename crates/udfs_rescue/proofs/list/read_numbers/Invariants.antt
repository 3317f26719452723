use Rattle.std.proofs.Common.{◌≡◌}
use Rattle.udfs_rescue.proofs.ListPieces.{Came}
use Rattle.udfs_rescue.proofs.list.read_numbers.Given as goal

abbrev pub invariant-loop : goal.invariant-loop
invariant-loop g l =
    record {
      came : Came (g.R.Source.remaining l.initial.source) (g.R.Source.remaining l.source) l.reader;
      count : g.R.Source.faults l.source ≡ g.R.Source.faults l.initial.source;
    }
