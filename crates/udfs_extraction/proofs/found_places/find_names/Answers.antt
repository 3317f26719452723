use Rattle.udfs_space.specs.Views.{view_by}
use Rattle.udfs_extraction.proofs.SeatLemmas.{found_all}
use Rattle.udfs_extraction.proofs.found_places.find_names.Goals as goal

pub returns-clause-found : goal.returns-clause-found
returns-clause-found g c known = found_all (view_by g.B.BlockStore.states c.args.view) _ _ c.args.nodes.now c.args.trees.now _ _ _ (c.in_ok-lost.ensures.value known) c.none-places.ensures (c.in_ok-add_nodes.ensures.added known) (c.in_ok-add_trees.ensures.added known)
