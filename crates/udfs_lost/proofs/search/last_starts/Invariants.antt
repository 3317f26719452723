use Rattle.std.proofs.Common.{List, length}
use Rattle.std.specs.Prelude.{Contains, reverse}
use Rattle.udfs_space.specs.Views.{view_by}
use Rattle.udfs_walk.specs.Targets.{Icb}
use Rattle.udfs_lost.specs.Met.{IsClosed}
use Rattle.udfs_lost.specs.Starts.{AreStarts}
use Rattle.udfs_lost.proofs.SearchLemmas.{IsLasting}
use Rattle.udfs_lost.proofs.search.last_starts.Given as goal

abbrev pub invariant-roots : goal.invariant-roots
invariant-roots g l = record {
  closed : g.B.BlockStore.tells → IsClosed (view_by g.B.BlockStore.states l.view) l.met;
  within : (f : Icb) → Contains l.left.items f → Contains l.fn.starts.items f;
  lasting : g.B.BlockStore.tells → (folders : List Icb) → AreStarts (view_by g.B.BlockStore.states l.view) folders l.fn.starts.items → IsLasting (view_by g.B.BlockStore.states l.view) folders l.fn.starts.items l.left.items l.met (reverse l.roots.items);
}

abbrev pub decreases-roots : goal.decreases-roots
decreases-roots g l = length l.left.items
