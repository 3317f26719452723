use Rattle.std.proofs.Common.{◌==◌, refl}
use Rattle.udfs_index.proofs.SlotLemmas.{forget_slot}
use Rattle.udfs_index.proofs.packet.Packet.forget.Goals as goal

pub returns : goal.returns
returns c j near = forget_slot c.args.self.now.known c.args.self.now.conflict c.args.self.now.places c.args.i j (j == c.args.i) refl c.requires near
