-- The names so far were added.
use Rattle.udfs_space.specs.Views.{view_by}
use Rattle.udfs_extraction.specs.Adding.{Adds}
use Rattle.udfs_extraction.specs.Seats.{IsFoundAt}
use Rattle.udfs_extraction.proofs.found_places.add_folder.Given as goal

abbrev pub invariant-loop-found : goal.invariant-loop-found
invariant-loop-found g l = g.B.BlockStore.tells → Adds (IsFoundAt (view_by g.B.BlockStore.states l.view) l.lost l.tree l.folder) l.initial.places l.places
