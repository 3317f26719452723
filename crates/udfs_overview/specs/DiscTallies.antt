-- What is counted of the disc, and of entries that no name leads to.
--     run_count blocks             how many runs of consecutive numbers there are
--     disc_of table last reread    the blocks by what is known of them, and those that are needed
--     unnamed_of entries           whole files that no name leads to
use Rattle.std.specs.Prelude.{ℕ, ◌+◌, ◌-◌, ◌==◌, ◌&&◌, nat_lt, Bool, List, [], ◌∷◌, cond, count_by, length}
use Rattle.udfs_lattice.specs.States.{is_conflict}
use Rattle.udfs_lattice.specs.Tables.{Table, conflict_count, known_count, state_of}
use Rattle.udfs_lattice.specs.Volumes.{Blocks}
use Rattle.udfs_walk.specs.declared.answers.Unnamed.{Unnamed}
use Rattle.udfs_walk.specs.Unsettled.{is_whole}
use Rattle.udfs_salvage.specs.UnnamedExtraction.{is_file}
use Rattle.udfs_overview.specs.declared.disc_tallies.DiscTally.{DiscTally}
use Rattle.udfs_overview.specs.declared.disc_tallies.UnnamedTally.{UnnamedTally}

-- a run ends where the next number does not follow at once, and with the last number
unfoldable pub run_count : List ℕ → ℕ
run_count [] = 0
run_count (n ∷ []) = 1
run_count (n ∷ m ∷ ms) = cond (m == n + 1) 0 1 + run_count (m ∷ ms)

-- two readings of a block differ
abbrev pub is_in_conflict : Blocks → ℕ → Bool
is_in_conflict blocks n = is_conflict (blocks n)

-- known, not known and in conflict are all blocks from 0 to the last one
unfoldable pub disc_of : Table → ℕ → List ℕ → DiscTally
disc_of table last reread = record {
  known = known_count table;
  not_known = last + 1 - known_count table - conflict_count table;
  conflicts = conflict_count table;
  needed = length reread;
  needed_in_conflict = count_by (is_in_conflict (state_of table)) reread;
  runs = run_count reread;
}

-- a whole file with bytes
abbrev pub has_data : Unnamed → Bool
has_data u = is_whole u.standing && is_file u.kind && nat_lt 0 u.size

-- a whole file without a byte
abbrev pub is_empty_file : Unnamed → Bool
is_empty_file u = is_whole u.standing && is_file u.kind && u.size == 0

-- whole files that no name leads to
unfoldable pub unnamed_of : List Unnamed → UnnamedTally
unnamed_of entries = record { with_data = count_by has_data entries; empty = count_by is_empty_file entries }
