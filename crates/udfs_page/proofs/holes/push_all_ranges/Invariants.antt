use Rattle.std.proofs.Common.{◌≡◌, ◌++◌, take}
use Rattle.std.specs.Prelude.{flat_map}
use Rattle.std.specs.String.{string_bytes}
use Rattle.udfs_page.specs.Holes.{range_html}
use Rattle.udfs_page.proofs.holes.push_all_ranges.Given as goal

-- the runs so far
abbrev pub invariant-loop-hole : goal.invariant-loop-hole
invariant-loop-hole l = string_bytes l.text ≡ string_bytes l.fn.text ++ flat_map range_html (take l.hole-index l.holes)
