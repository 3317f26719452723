use Rattle.udfs_tables.proofs.ImagedLemmas.{Behind}
use Rattle.udfs_tables.proofs.imaged.IndexedImaged.past_end.Given as goal

abbrev pub invariant-loop-block : goal.invariant-loop-block
invariant-loop-block g l = Behind l.self.index.now.places.packets.items l.last l.block
