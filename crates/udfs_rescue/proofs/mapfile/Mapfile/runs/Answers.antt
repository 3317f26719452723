use Rattle.std.proofs.Common.{subst}
use Rattle.udfs_rescue.specs.Runs.{AreRuns}
use Rattle.udfs_rescue.proofs.Contiguous.{due_runs}
use Rattle.udfs_rescue.proofs.mapfile.Mapfile.runs.Goals as goal

pub returns-clause-contiguous : goal.returns-clause-contiguous
returns-clause-contiguous c = subst AreRuns c.self.view_is (due_runs c.self.inside.end c.self.inside.runs.items c.self.invariant)
