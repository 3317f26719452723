use Rattle.udfs_space.specs.Views.{view_by}
use Rattle.udfs_walk.proofs.BareNodes.{unnamed_same}
use Rattle.udfs_walk.proofs.unnamed_entries.bare_unnamed_by.Goals as goal

pub returns-clause-value : goal.returns-clause-value
returns-clause-value g c told = rw (unnamed_same (view_by g.B.BlockStore.states c.args.view) c.args.view.space.now c.args.nodes.now) (c.in_ok-found.ensures.value told)
