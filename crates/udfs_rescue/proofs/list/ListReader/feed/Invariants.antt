-- The bytes so far were taken.
use Rattle.std.proofs.Common.{ℕ, List, ◌++◌, Result, take}
use Rattle.udfs_rescue.specs.BlockLists.{StandsList}
use Rattle.udfs_rescue.proofs.list.ListReader.feed.Given as goal

abbrev pub invariant-loop-byte : goal.invariant-loop-byte
invariant-loop-byte l = (says : List ℕ → Result (List ℕ) ℕ) → StandsList l.fn.self says → StandsList l.self (λ rest. says (take l.byte-index l.piece ++ rest))
