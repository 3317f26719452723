use Rattle.std.proofs.Common.{◌≡◌, ◌++◌, drop}
use Rattle.udfs_lawfulness.specs.Tables.{blocks_of}
use Rattle.udfs_lawfulness.proofs.tables.push_copies.Given as goal

-- the numbers so far with those of the copies that are left are all
abbrev pub invariant-loop-place : goal.invariant-loop-place
invariant-loop-place l = l.numbers.items ++ blocks_of l.size (drop l.place-index l.places) ≡ l.fn.numbers.items ++ blocks_of l.size l.places
