-- Where nothing was taken before, the inputs before this place were taken.
use Rattle.std.proofs.Common.{take}
use Rattle.udfs_lattice.specs.Tables.{empty_table}
use Rattle.udfs_index.specs.AnyStored.{stored_in}
use Rattle.udfs_common.specs.Indexing.{Indexed}
use Rattle.udfs_common.proofs.indexing.index_all.Given as goal

abbrev pub invariant-loop-place : goal.invariant-loop-place
invariant-loop-place g l = g.T.Taker.took l.fn.taker empty_table → Indexed (stored_in g.S.Stored.content) l.paths (take l.place l.stored) l.force (g.T.Taker.took l.taker)
