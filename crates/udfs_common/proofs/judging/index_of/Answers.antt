use Rattle.std.proofs.Common.{rules}
use Rattle.udfs_lattice.specs.Records.{join_all}
use Rattle.udfs_lattice.specs.TableLaws.{join_tables-empty}
use Rattle.udfs_lattice.specs.Tables.{empty_table}
use Rattle.udfs_common.proofs.IndexingLemmas.{tell_by}
use Rattle.udfs_common.proofs.judging.index_of.Goals as goal

pub returns-in-Ok-take_inputs : goal.returns-in-Ok-take_inputs
returns-in-Ok-take_inputs g c ts tell = rw (← join_tables-empty (join_all ts)) (c.in-Ok-take_inputs.ensures.good ts (tell_by _ g.S.Stored.content _ c.args.stored.now ts (search rules) tell) empty_table c.in-Ok.ensures)
