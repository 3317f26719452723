use Rattle.udfs_rescue.proofs.Judged.{some_ranges}
use Rattle.udfs_rescue.proofs.known.KnownBlocks.into_ranges.Goals as goal

pub returns-clause-some : goal.returns-clause-some
returns-clause-some c = some_ranges 0 c.self.inside.ranges.items c.self.invariant.0.rise c.self.invariant.0.within
