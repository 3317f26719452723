-- The records so far were read, and put into the table.
use Rattle.std.proofs.Common.{◌≡◌}
use Rattle.udfs_reading.specs.Device.{left}
use Rattle.udfs_reading.specs.Gains.{Gains}
use Rattle.udfs_reading.specs.Places.{StandsAt}
use Rattle.udfs_reading.specs.Reading.{TakesRecords}
use Rattle.udfs_reading.proofs.reading.read_records.Given as goal

abbrev pub invariant-loop-index : goal.invariant-loop-index
invariant-loop-index g l =
    let R = g.R.Source in
    record {
      taken : Gains (g.T.Taker.took l.initial.taker) (g.T.Taker.took l.taker) (TakesRecords (left l.initial.window.bytes (R.remaining l.initial.source)) (left l.window.bytes (R.remaining l.source)) l.index);
      at : StandsAt (g.T.Taker.input l.taker) l.window.at (left l.window.bytes (R.remaining l.source));
      kept : R.faults l.source ≡ R.faults l.initial.source;
    }
