use Rattle.std.proofs.Common.{◌==◌, rules, refl}
use Rattle.udfs_index.proofs.SlotLemmas.{put_slot}
use Rattle.udfs_index.proofs.packet.Packet.put.Goals as goal

pub returns : goal.returns
returns c j near = put_slot c.args.self.now.known c.args.self.now.conflict c.args.self.now.places c.args.i c.args.place j (j == c.args.i) refl c.requires (search rules)
