-- The first part of a name, as the writer takes it: a surrogate pair, or one unit. Only private contracts cite these.
use Rattle.std.specs.Prelude.{ℕ, List, [], ◌∷◌, slice_index, if◌then◌else◌}
use Rattle.std.specs.Char.Utf16.{surrogate_pair_char}
use Rattle.udfs_osta.specs.Fronts.{begins_with_pair}
use Rattle.udfs_overview.specs.SafeNames.{safe_unit}

-- the characters of the first part
abbrev pub front_characters : List ℕ → List ℕ
front_characters units =
    if begins_with_pair units then surrogate_pair_char (slice_index units 0) (slice_index units 1) ∷ []
    else safe_unit (slice_index units 0)
