use Rattle.udfs_tables.proofs.indexed.write_version.Goals as goal

pub returns-in-Two-clause-bytes : goal.returns-in-Two-clause-bytes
returns-in-Two-clause-bytes g c t is told took = rw c.in-Two.is (c.write_table.ensures.bytes t told took)
