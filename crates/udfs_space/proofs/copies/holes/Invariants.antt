use Rattle.std.proofs.Common.{◌≡◌, ◌++◌, drop}
use Rattle.std.specs.Prelude.{flat_map}
use Rattle.udfs_space.specs.Sparing.{copies}
use Rattle.udfs_space.proofs.copies.holes.Given as goal

abbrev pub invariant-loop-k : goal.invariant-loop-k
invariant-loop-k g l = l.numbers.items ++ flat_map (copies l.map.tables.items) (drop l.k-index l.k-items) ≡ flat_map (copies l.map.tables.items) l.k-items
