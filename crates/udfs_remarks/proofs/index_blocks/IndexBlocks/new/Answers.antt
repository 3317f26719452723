use Rattle.udfs_remarks.proofs.IndexStates.{held_by}
use Rattle.udfs_remarks.proofs.index_blocks.IndexBlocks.new.Goals as goal

pub returns : goal.returns
returns g c t told fits took = record { told = told; is_table = fits; took = took; same = λ n. held_by g.S.Stored.content _ _ t n told fits took }
