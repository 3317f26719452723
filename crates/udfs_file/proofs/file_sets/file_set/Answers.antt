use Rattle.udfs_file.proofs.file_sets.file_set.Goals as goal

pub returns-clause-complete : goal.returns-clause-complete
returns-clause-complete c = c.in-Ok.ensures.complete tt
