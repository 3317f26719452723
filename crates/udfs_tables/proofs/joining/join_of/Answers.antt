use Rattle.udfs_tables.proofs.joining.join_of.Goals as goal

pub returns-in-Ok-clause-joined : goal.returns-in-Ok-clause-joined
returns-in-Ok-clause-joined g c =
    let value = c.as_slice-paths.ensures.value in
    record { one_disc = λ tells. rw value at c.in-Ok.ensures.one_disc; join = rw value at c.in-Ok.ensures.by_path }

pub returns-in-Err-clause-refused : goal.returns-in-Err-clause-refused
returns-in-Err-clause-refused g c = (rw c.as_slice-paths.ensures.value at c.in-Err.ensures.blamed, c.in-Err.ensures.told.1, c.in-Err.ensures.forced)
