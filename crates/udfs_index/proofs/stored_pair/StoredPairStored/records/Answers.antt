use Rattle.std.proofs.Common.{rules}
use Rattle.udfs_index.proofs.RecordLemmas.{has_records}
use Rattle.udfs_index.proofs.stored_pair.StoredPairStored.records.Goals as goal

pub returns-in-Ok : goal.returns-in-Ok
returns-in-Ok g c =
    has_records (g.S.Stored.content c.args.self.now.image) c.args.self.now.blocks c.args.self.now.size c.count.result c.args.self.now.told c.args.self.now.inside c.count.ensures.blocks.within c.count.ensures.value (search rules) c.in-Ok.ensures.bytes
