-- Labels: dstrings of 128 bytes (OSTA UDF 2.1.3, ECMA-167 1/7.2.12).
--     label_of bytes       what the bytes of the field say
use Rattle.std.specs.Prelude.{◌≡◌, ℕ, ◌==◌, nat_lt, List, take, slice_index, Result, Ok, Err, if◌then◌else◌}
use Rattle.udfs_osta.specs.declared.names.NameFault.{NameFault}
use Rattle.udfs_osta.specs.declared.labels.Label.{Label}
use Rattle.udfs_osta.specs.declared.labels.Label.TheVariants.{Empty, Name, Invalid}
use Rattle.udfs_osta.specs.Names.{units_of}

-- the label of a name, if the bytes are one
abbrev pub label_of_name : Result (List ℕ) NameFault → Label
label_of_name (Ok units) = Name units
label_of_name (Err fault) = Invalid

-- the last byte is the number of bytes in use: none, or 1 to 127 that are a name
abbrev pub label_of : List ℕ → Label
label_of bytes =
    if slice_index bytes 127 == 0 then Empty
    else if nat_lt 127 (slice_index bytes 127) then Invalid
    else label_of_name (units_of (take (slice_index bytes 127) bytes))

-- the label is a name
abbrev pub IsNamed : Label → Type 0
IsNamed label = (units : List ℕ) × (label ≡ Name units)
