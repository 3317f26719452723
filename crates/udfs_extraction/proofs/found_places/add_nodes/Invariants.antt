-- The names so far were added.
use Rattle.udfs_space.specs.Views.{view_by}
use Rattle.udfs_extraction.specs.Adding.{Adds}
use Rattle.udfs_extraction.specs.Seats.{IsFoundAmong}
use Rattle.udfs_extraction.proofs.found_places.add_nodes.Given as goal

abbrev pub invariant-loop-folder : goal.invariant-loop-folder
invariant-loop-folder g l = g.B.BlockStore.tells → Adds (IsFoundAmong (view_by g.B.BlockStore.states l.view) l.lost l.tree l.nodes) l.initial.places l.places
