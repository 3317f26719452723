use Rattle.udfs_space.specs.Views.{view_by}
use Rattle.udfs_lost.proofs.SearchLemmas.{IsStarting}
use Rattle.udfs_lost.proofs.search.starts.Given as goal

abbrev pub invariant-loop-folder : goal.invariant-loop-folder
invariant-loop-folder g l = g.B.BlockStore.tells → IsStarting (view_by g.B.BlockStore.states l.view) l.folders l.folder-index l.met l.starts.items
