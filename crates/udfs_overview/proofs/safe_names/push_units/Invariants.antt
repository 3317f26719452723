use Rattle.std.proofs.Common.{◌≡◌, ◌++◌, length}
use Rattle.std.specs.String.{string_bytes}
use Rattle.std.specs.Str.{encode_utf8_all}
use Rattle.udfs_overview.specs.SafeNames.{safe_units}
use Rattle.udfs_overview.proofs.safe_names.push_units.Given as goal

abbrev pub invariant-loop-rest : goal.invariant-loop-rest
invariant-loop-rest l =
    string_bytes l.text ++ encode_utf8_all (safe_units l.rest) ≡ string_bytes l.fn.text ++ encode_utf8_all (safe_units l.units)

abbrev pub decreases-loop-rest : goal.decreases-loop-rest
decreases-loop-rest l = length l.rest
