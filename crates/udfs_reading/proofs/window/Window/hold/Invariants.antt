-- What was read ahead so far stands in the window, and nothing failed.
use Rattle.std.proofs.Common.{◌≡◌, ◌-◌, [], length}
use Rattle.std.specs.Io.KnownBytes.{Consumes}
use Rattle.udfs_reading.specs.Device.{left}
use Rattle.udfs_reading.proofs.window.Window.hold.Given as goal

abbrev pub invariant-loop-self : goal.invariant-loop-self
invariant-loop-self g l =
    let R = g.R.Source in
    record {
      given : Consumes (left l.initial.self.bytes (R.remaining l.initial.source)) (left l.self.bytes (R.remaining l.source)) [];
      place : l.self.at ≡ l.initial.self.at;
      kept : R.faults l.source ≡ R.faults l.initial.source;
    }

abbrev pub decreases-loop-self : goal.decreases-loop-self
decreases-loop-self g l = l.size - length l.self.bytes
