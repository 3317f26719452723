use Rattle.std.proofs.Common.{◌≡◌, ◌++◌, take}
use Rattle.std.specs.String.{string_bytes}
use Rattle.udfs_overview.specs.NodeLists.{safe_path}
use Rattle.udfs_overview.proofs.node_columns.push_safe_path.Given as goal

-- the names so far
abbrev pub invariant-loop-index : goal.invariant-loop-index
invariant-loop-index l = string_bytes l.text ≡ string_bytes l.fn.text ++ safe_path (take l.index l.path)
