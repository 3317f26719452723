use Rattle.std.proofs.Common.{sym}
use Rattle.udfs_lattice.specs.TableLaws.{join_tables-empty_right}
use Rattle.udfs_lattice.proofs.table.BlockTable.add.Goals as goal

pub returns-in-Unknown-clause-ok : goal.returns-in-Unknown-clause-ok
returns-in-Unknown-clause-ok c = rw c.in-Unknown.is (sym (join_tables-empty_right c.args.self.now))

pub returns-in_ok-enter-in-Conflict-clause-ok : goal.returns-in_ok-enter-in-Conflict-clause-ok
returns-in_ok-enter-in-Conflict-clause-ok c = rw c.in-Conflict.is c.in_ok-enter-in-Conflict.ensures.ok
