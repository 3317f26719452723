use Rattle.udfs_index.proofs.StoreLemmas.{state_read}
use Rattle.udfs_index.proofs.blocks.IndexBlockStore.lend.Goals as goal

pub returns-in-Ok-clause-state : goal.returns-in-Ok-clause-state
returns-in-Ok-clause-state g c =
    state_read g.S.Stored.content c.args.self.now.inputs.items c.args.self.now.places.packets.items c.args.n c.in-Known.place c.fill_from.new.there c.in-Known.ensures c.in-Ok.ensures.there
