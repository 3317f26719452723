-- The bytes so far, and those of the text that is left, are those of all of it.
use Rattle.std.proofs.Common.{◌≡◌, ◌++◌, drop}
use Rattle.udfs_extraction.specs.ShortNames.{unit_bytes}
use Rattle.udfs_extraction.proofs.short_names.push_ascii.Given as goal

abbrev pub invariant-loop-byte : goal.invariant-loop-byte
invariant-loop-byte l = l.bytes.items ++ unit_bytes (drop l.byte-index l.text) ≡ l.initial.bytes.items ++ unit_bytes l.text
