-- What was read beside what was read before.
--     disagreeing before own      in how many blocks the two disagree
--     shared before own           how many blocks both know
--     is_other_disc blocks of     so many that the two are not of one disc
use Rattle.std.specs.Prelude.{ℕ, ◌*◌, ◌&&◌, List, Bool, true, false, not, count_by, nat_le, nat_lt}
use Rattle.std.specs.Str.{bytes_eq}
use Rattle.udfs_lattice.specs.declared.facts.Fact.TheVariants.{Unknown, Known, Conflict}
use Rattle.udfs_lattice.specs.States.{State, is_known}
use Rattle.udfs_lattice.specs.Tables.{Table, entries_of, state_of}

-- both know the block
abbrev pub are_known : State → State → Bool
are_known Unknown y = false
are_known (Known a) y = is_known y
are_known Conflict y = false

-- the state knows other bytes than these
abbrev pub is_other : List ℕ → State → Bool
is_other a Unknown = false
is_other a (Known b) = not (bytes_eq a b)
is_other a Conflict = false

-- both know the block, by other bytes
abbrev pub are_other : State → State → Bool
are_other Unknown y = false
are_other (Known a) y = is_other a y
are_other Conflict y = false

-- how many blocks both know
abbrev pub shared : Table → Table → ℕ
shared before own = count_by (λ e. are_known (state_of before e.0) e.1) (entries_of own)

-- how many of these they know by other bytes
abbrev pub disagreeing : Table → Table → ℕ
disagreeing before own = count_by (λ e. are_other (state_of before e.0) e.1) (entries_of own)

-- at least four, and more than one of four
abbrev pub is_other_disc : ℕ → ℕ → Bool
is_other_disc blocks of = nat_le 4 blocks && nat_lt of (4 * blocks)
