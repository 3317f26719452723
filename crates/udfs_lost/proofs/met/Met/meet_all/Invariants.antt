use Rattle.std.proofs.Common.{take}
use Rattle.udfs_lost.specs.Met.{AreMetWith}
use Rattle.udfs_lost.proofs.met.Met.meet_all.Given as goal

abbrev pub invariant-loop-icb : goal.invariant-loop-icb
invariant-loop-icb l = AreMetWith l.fn.self (take l.icb-index l.icbs) l.met
