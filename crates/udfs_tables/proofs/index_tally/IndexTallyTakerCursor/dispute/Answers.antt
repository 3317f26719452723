use Rattle.udfs_lattice.specs.declared.facts.Fact.TheVariants.{Conflict}
use Rattle.udfs_tables.proofs.EntryTables.{one_more_is_table}
use Rattle.udfs_tables.proofs.index_tally.IndexTallyTakerCursor.dispute.Goals as goal

pub returns-in-Ok-clause-ok : goal.returns-in-Ok-clause-ok
returns-in-Ok-clause-ok g c t h = (one_more_is_table t c.args.block Conflict h.0 c.requires, c.in-Ok.ensures.ok t h.1)

pub returns-in-Err-clause-err : goal.returns-in-Err-clause-err
returns-in-Err-clause-err g c t h = (h.0, c.in-Err.ensures.err t h.1)
