-- The runs so far and those that are left are all.
use Rattle.std.proofs.Common.{◌≡◌, ◌≤◌, ◌+◌, drop}
use Rattle.udfs_reports.specs.Rereading.{breaks}
use Rattle.udfs_reports.proofs.reread_map.count_breaks.Given as goal

abbrev pub invariant-loop-block : goal.invariant-loop-block
invariant-loop-block l = (l.count + breaks l.before (drop l.block-index l.blocks) ≡ breaks l.first l.blocks) × (l.count ≤ l.block-index)
