-- The names so far were added.
use Rattle.udfs_space.specs.Views.{view_by}
use Rattle.udfs_extraction.specs.Adding.{Adds}
use Rattle.udfs_extraction.specs.Seats.{IsFoundBelow}
use Rattle.udfs_extraction.proofs.found_places.add_trees.Given as goal

abbrev pub invariant-loop-tree : goal.invariant-loop-tree
invariant-loop-tree g l = g.B.BlockStore.tells → Adds (IsFoundBelow (view_by g.B.BlockStore.states l.view) l.lost l.trees) l.initial.places l.places
