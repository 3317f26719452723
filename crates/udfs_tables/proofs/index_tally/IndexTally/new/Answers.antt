use Rattle.udfs_tables.proofs.EntryTables.{none_is_table}
use Rattle.udfs_tables.proofs.index_tally.IndexTally.new.Goals as goal

pub returns : goal.returns
returns g c = (none_is_table, c.in_ok-new.ensures)
