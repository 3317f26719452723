use Rattle.udfs_rescue.proofs.line.MapRuns.into_mapfile.Goals as goal

pub new-requires : goal.new-requires
new-requires c = c.self.invariant
