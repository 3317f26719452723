use Rattle.std.proofs.Common.{◌==◌, rules, slice_index_or}
use Rattle.std.specs.Int.{bit_at}
use Rattle.udfs_index.proofs.SlotLemmas.{known_bit, disputed_bit}
use Rattle.udfs_index.proofs.packet.Packet.masks.Goals as goal

pub returns-clause-known : goal.returns-clause-known
returns-clause-known c i near = known_bit (bit_at c.args.self.now.known i == 1) (bit_at c.args.self.now.conflict i == 1) (slice_index_or c.args.self.now.places i 0)

pub returns-clause-conflict : goal.returns-clause-conflict
returns-clause-conflict c i near = disputed_bit c.args.self.now.known c.args.self.now.conflict (slice_index_or c.args.self.now.places i 0) i (search rules) near
