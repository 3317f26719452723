use Rattle.std.proofs.Common.{refl, ◌∙◌}
use Rattle.udfs_lattice.specs.Records.{join_all}
use Rattle.udfs_lattice.specs.TableLaws.{join_tables-empty}
use Rattle.udfs_tables.proofs.merge.tallied.Goals as goal

pub returns-in-Ok-take_all-clause-joined : goal.returns-in-Ok-take_all-clause-joined
returns-in-Ok-take_all-clause-joined g c =
    let value = c.as_slice-paths.ensures.value in
    let t = rw value at c.in-Ok-take_all.ensures.by_path in
    record {
      one_disc = λ tells. rw value at (c.in-Ok-take_all.ensures.one_disc c.in-Ok.ensures);
      join = (t.0, t.1, t.2 c.in-Ok.tally refl ∙ rw c.in-Ok.ensures (join_tables-empty (join_all t.0)));
    }

pub returns-in-Err-take_all-clause-refused : goal.returns-in-Err-take_all-clause-refused
returns-in-Err-take_all-clause-refused g c = (rw c.as_slice-paths.ensures.value at (c.in-Err-take_all.ensures.blamed c.in-Ok.ensures), c.in-Err-take_all.ensures.told.1, c.in-Err-take_all.ensures.forced)
