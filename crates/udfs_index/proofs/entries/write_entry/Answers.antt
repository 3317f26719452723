use Rattle.udfs_index.proofs.CopyLemmas.{stopped_none}
use Rattle.udfs_index.proofs.entries.write_entry.Goals as goal

pub returns-in-Err-clause-bytes : goal.returns-in-Err-clause-bytes
returns-in-Err-clause-bytes g c wholes told = stopped_none _ _ _
