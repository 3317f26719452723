use Rattle.std.proofs.Common.{◌≡◌, ◌++◌}
use Rattle.std.specs.String.{string_bytes}
use Rattle.udfs_overview.specs.TornLists.{spaces}
use Rattle.udfs_overview.proofs.torn_lines.push_spaces.Given as goal

-- those so far
abbrev pub invariant-loop : goal.invariant-loop
invariant-loop l = string_bytes l.text ≡ string_bytes l.fn.text ++ spaces l.counter
