use Rattle.std.proofs.Common.{refl}
use Rattle.udfs_index.proofs.FrontLemmas.{size_told}
use Rattle.udfs_index.proofs.RecordLemmas.{bytes_of_reading}
use Rattle.udfs_index.proofs.stored_pair.StoredPairStored.size.Goals as goal

pub returns-clause-value : goal.returns-clause-value
returns-clause-value g c = size_told (g.S.Stored.content c.args.self.now.image) c.args.self.now.blocks c.args.self.now.size c.count.result _ c.args.self.now.told c.args.self.now.inside c.count.ensures.value refl

pub returns-in_err-size-clause-bytes : goal.returns-in_err-size-clause-bytes
returns-in_err-size-clause-bytes g c = bytes_of_reading (g.S.Stored.content c.args.self.now.image) c.args.self.now.blocks c.in_err-size.ensures.bytes

pub returns-clause-bytes : goal.returns-clause-bytes
returns-clause-bytes g c = bytes_of_reading (g.S.Stored.content c.args.self.now.image) c.args.self.now.blocks c.in_ok-size.ensures.bytes
