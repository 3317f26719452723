use Rattle.std.proofs.Common.{◌≡◌, drop}
use Rattle.std.specs.List.{list_any}
use Rattle.udfs_overview.specs.Repeating.{is_hidden}
use Rattle.udfs_overview.proofs.repeating.has_hidden.Given as goal

-- what is left decides
abbrev pub invariant-loop-byte : goal.invariant-loop-byte
invariant-loop-byte l = list_any is_hidden l.bytes ≡ list_any is_hidden (drop l.byte-index l.bytes)
