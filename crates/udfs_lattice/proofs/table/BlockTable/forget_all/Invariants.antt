use Rattle.std.proofs.Common.{drop}
use Rattle.udfs_lattice.specs.Tables.{Table, AreForgotten}
use Rattle.udfs_lattice.proofs.table.BlockTable.forget_all.Given as goal

abbrev pub invariant-loop-n : goal.invariant-loop-n
invariant-loop-n l = (v : Table) → AreForgotten l.self (drop l.n-index l.blocks) v → AreForgotten l.fn.self l.blocks v
