use Rattle.udfs_lattice.specs.declared.facts.Fact.TheVariants.{Known}
use Rattle.udfs_tables.proofs.EntryTables.{block_of, one_more_is_table}
use Rattle.udfs_tables.proofs.index_tally.IndexTallyTakerCursor.put.Goals as goal

pub returns-in_default-clause-err : goal.returns-in_default-clause-err
returns-in_default-clause-err g c t h = (h.0, c.is_other_again.ensures.same t h.1)

pub returns-after-is_again-clause-ok : goal.returns-after-is_again-clause-ok
returns-after-is_again-clause-ok g c t h = (
  one_more_is_table t c.args.block (Known c.args.bytes.now) h.0 (c.requires.block, block_of c.args.bytes.now c.told-bytes c.fits-bytes),
  c.in-Ok-put.ensures.ok t (c.in-Ok.ensures.same t h.1),
)

pub returns-in-Err-clause-err : goal.returns-in-Err-clause-err
returns-in-Err-clause-err g c t h = (h.0, c.in-Err.ensures.err t (c.in-Ok.ensures.same t h.1))
