use Rattle.std.proofs.Common.{◌≡◌, ◌++◌, take}
use Rattle.std.specs.Prelude.{flat_map}
use Rattle.std.specs.String.{string_bytes}
use Rattle.udfs_overview.specs.LeftOut.{further_type}
use Rattle.udfs_overview.proofs.left_out.push_all_further.Given as goal

-- the types so far
abbrev pub invariant-loop-file_type : goal.invariant-loop-file_type
invariant-loop-file_type l = string_bytes l.text ≡ string_bytes l.fn.text ++ flat_map further_type (take l.file_type-index l.types)
