use Rattle.std.proofs.Common.{◌==◌, refl}
use Rattle.udfs_index.proofs.SlotLemmas.{dispute_slot}
use Rattle.udfs_index.proofs.packet.Packet.dispute.Goals as goal

pub returns : goal.returns
returns c j near = dispute_slot c.args.self.now.known c.args.self.now.conflict c.args.self.now.places c.args.i c.args.by j (j == c.args.i) refl c.requires near
