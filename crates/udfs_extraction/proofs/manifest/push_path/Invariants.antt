-- The bytes so far, and those that are left, are those of the whole path.
use Rattle.std.proofs.Common.{◌≡◌, ◌++◌, drop}
use Rattle.udfs_extraction.specs.SumLines.{path_text}
use Rattle.udfs_extraction.proofs.manifest.push_path.Given as goal

abbrev pub invariant-loop-byte : goal.invariant-loop-byte
invariant-loop-byte l = l.text.items ++ path_text (drop l.byte-index l.path) ≡ l.initial.text.items ++ path_text l.path
