use Rattle.udfs_index.proofs.FrontLemmas.{low_block, recorded_at}
use Rattle.udfs_index.proofs.stored_pair.StoredPairStored.block_of.Goals as goal

pub returns-in-Some-clause-fits : goal.returns-in-Some-clause-fits
returns-in-Some-clause-fits g c = low_block c.args.self.now.blocks c.args.number c.in-Some.found.block c.in-Some.found.left c.in-Some.ensures.some

pub returns-in-Some-clause-at : goal.returns-in-Some-clause-at
returns-in-Some-clause-at g c = recorded_at (g.S.Stored.content c.args.self.now.image) c.args.self.now.blocks c.args.self.now.size c.args.number c.in-Some.found.block c.in-Some.found.left c.args.self.now.told c.args.self.now.inside c.in-Some.ensures.some
