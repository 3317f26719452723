-- The paths so far.
use Rattle.std.proofs.Common.{◌≡◌, map, take}
use Rattle.std.specs.String.{string_bytes}
use Rattle.udfs_remarks.specs.Wanted.{meant}
use Rattle.udfs_remarks.proofs.wanted.meant.Given as goal

abbrev pub invariant-loop-node : goal.invariant-loop-node
invariant-loop-node l = map string_bytes l.paths.items ≡ meant l.hides (take l.node-index l.nodes) l.word
