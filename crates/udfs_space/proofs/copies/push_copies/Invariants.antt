use Rattle.std.proofs.Common.{◌≡◌, ◌++◌, drop}
use Rattle.udfs_space.specs.Sparing.{copies}
use Rattle.udfs_space.proofs.copies.push_copies.Given as goal

abbrev pub invariant-loop-first : goal.invariant-loop-first
invariant-loop-first l = l.numbers.items ++ copies (drop l.first-index l.places) l.k ≡ l.fn.numbers.items ++ copies l.places l.k
