use Rattle.udfs_tables.proofs.index_tally.IndexTallyTakerCursor.begin.Goals as goal

pub returns-clause-same : goal.returns-clause-same
returns-clause-same g c t h = (h.0, c.begin.ensures.same t (rw c.end_input.ensures h.1))
