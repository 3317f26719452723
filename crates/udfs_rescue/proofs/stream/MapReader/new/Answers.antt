use Rattle.std.proofs.Common.{refl}
use Rattle.udfs_rescue.proofs.StreamLemmas.{stands_new}
use Rattle.udfs_rescue.proofs.stream.MapReader.new.Goals as goal

pub returns : goal.returns
returns c = stands_new _ refl c.new-3.ensures c.new.ensures c.new-2.ensures
