use Rattle.std.proofs.Common.{refl, ◌∙◌}
use Rattle.udfs_lattice.specs.Records.{join_all}
use Rattle.udfs_lattice.specs.TableLaws.{join_tables-empty}
use Rattle.udfs_reading.proofs.inputs.join_each.Goals as goal

pub returns-in-Ok-clause-table : goal.returns-in-Ok-clause-table
returns-in-Ok-clause-table g c =
    let t = c.in-Ok.ensures.table in
    (t.0, t.1, t.2 c.new-table.result refl ∙ rw c.new-table.ensures (join_tables-empty (join_all t.0)))
