use Rattle.std.proofs.Common.{◌≡◌, drop}
use Rattle.std.specs.List.{list_any}
use Rattle.udfs_walk.specs.Targets.{is_icb}
use Rattle.udfs_walk.proofs.visits.is_loop.Given as goal

abbrev pub invariant-loop-icb : goal.invariant-loop-icb
invariant-loop-icb l = list_any (is_icb l.address) (drop l.icb-index l.above) ≡ list_any (is_icb l.address) l.above
