-- The ranges so far and those of the runs that are left are all.
use Rattle.std.proofs.Common.{◌≡◌, ◌++◌, ◌<◌, ◌^◌, drop}
use Rattle.udfs_rescue.specs.Runs.{RunsFrom}
use Rattle.udfs_rescue.specs.Ranges.{ranges_from}
use Rattle.udfs_rescue.proofs.known.ranges_of.Given as goal

abbrev pub invariant-loop-run : goal.invariant-loop-run
invariant-loop-run l =
    record {
      told : l.ranges.items ++ ranges_from l.from l.to (drop l.run-index l.runs) ≡ ranges_from l.fn.first l.fn.first l.runs;
      runs : RunsFrom l.to (drop l.run-index l.runs);
      from_in : l.from < 2 ^ 63;
      to_in : l.to < 2 ^ 63;
    }
