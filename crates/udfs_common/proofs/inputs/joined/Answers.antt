use Rattle.std.proofs.Common.{refl, ◌∙◌}
use Rattle.udfs_lattice.specs.Records.{join_all}
use Rattle.udfs_lattice.specs.TableLaws.{join_tables-empty}
use Rattle.udfs_common.proofs.inputs.joined.Goals as goal

pub returns-in-Ok-clause-by_path : goal.returns-in-Ok-clause-by_path
returns-in-Ok-clause-by_path g c =
    let t = c.in-Ok.ensures.by_path in
    (t.0, t.1, t.2 c.new-table.result refl ∙ rw c.new-table.ensures (join_tables-empty (join_all t.0)))

pub returns-in-Ok-clause-one_disc : goal.returns-in-Ok-clause-one_disc
returns-in-Ok-clause-one_disc g c unforced = c.in-Ok.ensures.one_disc c.new-table.ensures unforced

pub returns-in-Err-clause-blamed : goal.returns-in-Err-clause-blamed
returns-in-Err-clause-blamed g c = c.in-Err.ensures.blamed c.new-table.ensures
