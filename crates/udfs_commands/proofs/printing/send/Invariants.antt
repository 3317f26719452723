-- `send` ends, since each turn takes some bytes, and what was taken is in the sink.
use Rattle.std.proofs.Common.{◌≡◌, ◌-◌, ◌≤◌, length, take}
use Rattle.std.specs.Io.KnownBytes.{Appends}
use Rattle.udfs_commands.proofs.printing.send.Given as goal

abbrev pub invariant-loop-sent : goal.invariant-loop-sent
invariant-loop-sent g l = (l.sent ≤ length l.bytes) × Appends (g.W.Sink.stream l.initial.sink).contents (g.W.Sink.stream l.sink).contents (take l.sent l.bytes) × ((g.W.Sink.stream l.sink).faults ≡ (g.W.Sink.stream l.initial.sink).faults)

abbrev pub decreases-loop-sent : goal.decreases-loop-sent
decreases-loop-sent g l = length l.bytes - l.sent
