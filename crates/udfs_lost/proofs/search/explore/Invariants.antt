use Rattle.std.proofs.Common.{◌-◌}
use Rattle.udfs_space.specs.Views.{view_by}
use Rattle.udfs_lost.proofs.MetLemmas.{IsExploring}
use Rattle.udfs_lost.proofs.search.explore.Given as goal

abbrev pub invariant-search : goal.invariant-search
invariant-search g l = g.B.BlockStore.tells → IsExploring (view_by g.B.BlockStore.states l.view) l.fn.met l.fn.icb l.met l.at

abbrev pub decreases-search : goal.decreases-search
decreases-search g l = 18446744073709551616 - l.at
