use Rattle.std.proofs.Common.{◌≡◌, drop}
use Rattle.udfs_rescue.specs.Known.{first_from}
use Rattle.udfs_rescue.proofs.known.first_from.Given as goal

abbrev pub invariant-loop-range : goal.invariant-loop-range
invariant-loop-range l = first_from (drop l.range-index l.ranges) l.block ≡ first_from l.ranges l.block
