-- The bytes so far, and those of the units that are left, are those of all units.
use Rattle.std.proofs.Common.{◌≡◌, ◌++◌, drop}
use Rattle.udfs_extraction.specs.ShortNames.{unit_bytes}
use Rattle.udfs_extraction.proofs.short_names.push_units.Given as goal

abbrev pub invariant-loop-unit : goal.invariant-loop-unit
invariant-loop-unit l = l.bytes.items ++ unit_bytes (drop l.unit-index l.units) ≡ l.initial.bytes.items ++ unit_bytes l.units
