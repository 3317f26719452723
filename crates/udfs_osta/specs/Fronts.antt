-- The first part of a name, as the writer takes it: a surrogate pair, or one unit. Only private contracts cite these.
use Rattle.std.specs.Prelude.{ℕ, ◌&&◌, Bool, false, List, [], ◌∷◌, slice_index, if◌then◌else◌}
use Rattle.std.specs.Char.Utf16.{is_high_surrogate, is_low_surrogate, surrogate_pair_char}
use Rattle.udfs_osta.specs.Escapes.{shown_unit}

-- the units begin with a surrogate pair
abbrev pub begins_with_pair : List ℕ → Bool
begins_with_pair [] = false
begins_with_pair (u ∷ []) = false
begins_with_pair (u ∷ v ∷ us) = is_high_surrogate u && is_low_surrogate v

-- how many units the first shown part takes, and its characters
abbrev pub front_len : List ℕ → ℕ
front_len units = if begins_with_pair units then 2 else 1

-- the character of the first unit, or of the surrogate pair that the units begin with
abbrev pub front_chars : List ℕ → List ℕ
front_chars units =
    if begins_with_pair units then surrogate_pair_char (slice_index units 0) (slice_index units 1) ∷ []
    else shown_unit (slice_index units 0)
