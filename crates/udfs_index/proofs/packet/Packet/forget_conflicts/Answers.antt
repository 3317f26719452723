use Rattle.udfs_index.proofs.SlotLemmas.{settle_slots}
use Rattle.udfs_index.proofs.packet.Packet.forget_conflicts.Goals as goal

pub returns : goal.returns
returns c i = settle_slots c.args.self.now.known c.args.self.now.conflict c.args.self.now.places i
