use Rattle.std.proofs.Common.{◌≡◌, drop, length, nat_le}
use Rattle.udfs_space.specs.Places.{View}
use Rattle.udfs_file.specs.Stretches.{cells_of}
use Rattle.udfs_file.proofs.cells.hold.Given as goal

abbrev pub invariant-loop-stretch : goal.invariant-loop-stretch
invariant-loop-stretch l = (v : View) → nat_le l.left (length (cells_of v (drop l.stretch-index l.stretches))) ≡ nat_le l.count (length (cells_of v l.stretches))
