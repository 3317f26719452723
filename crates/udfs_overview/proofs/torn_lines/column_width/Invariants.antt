use Rattle.std.proofs.Common.{◌≡◌, take}
use Rattle.udfs_overview.specs.TornLists.{column_width}
use Rattle.udfs_overview.proofs.torn_lines.column_width.Given as goal

-- the widest so far
abbrev pub invariant-loop-row : goal.invariant-loop-row
invariant-loop-row l = l.widest ≡ column_width l.column (take l.row-index l.rows)
