use Rattle.std.proofs.lemmas.Nat.{one_shl}
use Rattle.udfs_lattice.proofs.PacketRanks.{rank-low_mask}
use Rattle.udfs_lattice.proofs.packet.rank_of.Goals as goal

pub returns : goal.returns
returns c = rank-low_mask c.args.mask c.args.i _ (one_shl c.args.i 32 c.requires)
