use Rattle.std.proofs.Common.{◌≡◌, drop}
use Rattle.std.specs.List.{list_all}
use Rattle.udfs_overview.specs.Repeating.{is_plain}
use Rattle.udfs_overview.proofs.repeating.are_plain.Given as goal

-- what is left decides
abbrev pub invariant-loop-byte : goal.invariant-loop-byte
invariant-loop-byte l = list_all is_plain l.bytes ≡ list_all is_plain (drop l.byte-index l.bytes)
