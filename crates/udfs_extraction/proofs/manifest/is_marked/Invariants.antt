-- Those that are left decide.
use Rattle.std.proofs.Common.{◌≡◌, drop}
use Rattle.std.specs.List.{list_any}
use Rattle.udfs_extraction.specs.SumLines.{must_escape}
use Rattle.udfs_extraction.proofs.manifest.is_marked.Given as goal

abbrev pub invariant-loop-byte : goal.invariant-loop-byte
invariant-loop-byte l = list_any must_escape l.path ≡ list_any must_escape (drop l.byte-index l.path)
