use Rattle.udfs_reading.proofs.PlaceLemmas.{chunk_moves}
use Rattle.udfs_reading.proofs.field.read_magic.Goals as goal

pub returns-clause-at : goal.returns-clause-at
returns-clause-at g c = chunk_moves _ _ _ 8 c.field.new.window.bytes _ _ (g.R.Source.remaining c.field.new.source) c.in_ok-field.ensures.whole c.in_ok-field.ensures.at c.take.ensures.at c.take.ensures.bytes c.in_ok-field.ensures.left
