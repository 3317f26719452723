use Rattle.udfs_index.specs.Index.{contents_of, input_by}
use Rattle.udfs_index.proofs.PlacedLemmas.{takes_placed}
use Rattle.udfs_index.proofs.RecordedLemmas.{block_of, has_read}
use Rattle.udfs_index.proofs.index.Index.put_read.Goals as goal

pub put-requires-clause-at : goal.put-requires-clause-at
put-requires-clause-at g c =
    has_read (input_by (contents_of g.S.Stored.content c.args.self.now.inputs.items) c.args.self.now.begun) (g.S.Stored.content c.args.stored.now) c.args.at c.args.bytes.now c.requires.is c.requires.read

pub returns-in-Ok-clause-ok : goal.returns-in-Ok-clause-ok
returns-in-Ok-clause-ok g c =
    takes_placed (g.S.Stored.content c.args.stored.now) c.args.at c.args.block (record { bytes = c.args.bytes.now; is_block = block_of c.args.bytes.now c.told-bytes c.fits-bytes; there = c.requires.read }) c.in-Ok.ensures.ok
