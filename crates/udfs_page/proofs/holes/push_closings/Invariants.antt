use Rattle.std.proofs.Common.{◌≡◌, ◌++◌}
use Rattle.std.specs.String.{string_bytes}
use Rattle.udfs_page.specs.Holes.{closings}
use Rattle.udfs_page.proofs.holes.push_closings.Given as goal

-- those so far
abbrev pub invariant-loop : goal.invariant-loop
invariant-loop l = string_bytes l.text ≡ string_bytes l.fn.text ++ closings l.counter
