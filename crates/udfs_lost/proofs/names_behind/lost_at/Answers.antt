use Rattle.udfs_space.specs.Views.{view_by}
use Rattle.udfs_lost.proofs.FoundLemmas.{named_lost, named_nothing}
use Rattle.udfs_lost.proofs.names_behind.lost_at.Goals as goal

pub returns-in-Some : goal.returns-in-Some
returns-in-Some g c = let S = g.B.BlockStore.states in named_nothing (view_by S c.args.view) c.args.lost.now c.args.entry.now c.in-Some.field-0 (c.in-Some.ensures (S c.args.view.blocks.now))

pub returns-in-None : goal.returns-in-None
returns-in-None g c = let S = g.B.BlockStore.states in named_lost (view_by S c.args.view) c.args.lost.now c.args.entry.now c.at.result c.address.result (c.in-None.ensures (S c.args.view.blocks.now)) c.address.ensures c.at.ensures
