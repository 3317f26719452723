use Rattle.std.proofs.Common.{◌≡◌, ◌++◌, take}
use Rattle.std.specs.String.{string_bytes}
use Rattle.udfs_salvage.specs.NodeTexts.{names_text}
use Rattle.udfs_salvage.proofs.appending.push_names.Given as goal

-- the names so far
abbrev pub invariant-loop-index : goal.invariant-loop-index
invariant-loop-index l = string_bytes l.text ≡ string_bytes l.fn.text ++ names_text (take l.index l.path)
