-- The text of a mapfile, by the status of each block.
use Rattle.std.specs.Fmt.{digit_glyph}
use Rattle.std.specs.Prelude.{ℕ, true, zero, suc, ◌+◌, ◌*◌, ◌/◌, ◌%◌, ◌^◌, List, [], ◌∷◌, ◌++◌, codes, nat_lt, ◌==◌, if◌then◌else◌}
use Rattle.std.specs.List.{flat_map}
use Rattle.udfs_lattice.specs.declared.facts.Fact.TheVariants.{Unknown, Known, Conflict}
use Rattle.udfs_lattice.specs.States.{State}
use Rattle.udfs_lattice.specs.Tables.{Table, state_of}
use Rattle.udfs_rescue.specs.declared.run.Run.{Run}
use Rattle.udfs_rescue.specs.declared.run.RunStatus.{RunStatus}
use Rattle.udfs_rescue.specs.declared.run.RunStatus.TheVariants.{NonTried, NonTrimmed, NonScraped, BadSector, Finished}
use Rattle.udfs_rescue.specs.Lines.{mark}

-- ---- the status of each block

-- a block of the list is wanted, and no other is
abbrev pub wanted_status : List ℕ → ℕ → RunStatus
wanted_status [] n = NonTried
wanted_status (x ∷ xs) n = if x == n then Finished else wanted_status xs n

-- the status of a block's state: `+` known, `-` in conflict, `?` unknown
abbrev pub state_status : State → RunStatus
state_status Unknown = NonTried
state_status (Known bytes) = Finished
state_status Conflict = BadSector

-- what the table knows of a block
abbrev pub table_status : Table → ℕ → RunStatus
table_status t n = state_status (state_of t n)

-- ---- its runs

-- the byte ?, *, /, - or +
abbrev pub status_byte : RunStatus → ℕ
status_byte NonTried = 63
status_byte NonTrimmed = 42
status_byte NonScraped = 47
status_byte BadSector = 45
status_byte Finished = 43

-- a run before others: with the first of them it is one where both have one status
abbrev pub joined_run : Run → List Run → List Run
joined_run r [] = r ∷ []
joined_run r (s ∷ ss) = if status_byte r.status == status_byte s.status then record { at = r.at; size = r.size + s.size; status = r.status } ∷ ss else r ∷ s ∷ ss

-- the run of one block
abbrev pub block_run : (ℕ → RunStatus) → ℕ → Run
block_run status n = record { at = 2048 * n; size = 2048; status = status n }

-- the runs of this many blocks from block n on
abbrev pub runs_of_blocks : (ℕ → RunStatus) → ℕ → ℕ → List Run
runs_of_blocks status n zero = []
runs_of_blocks status n (suc k) = joined_run (block_run status n) (runs_of_blocks status (n + 1) k)

-- ---- their text

-- this many hexadecimal digits of a number, the last ones
abbrev pub hex_digits : ℕ → ℕ → List ℕ
hex_digits zero n = []
hex_digits (suc k) n = hex_digits k (n / 16) ++ digit_glyph true (n % 16) ∷ []

-- eight digits, or one more where the number does not fit
abbrev pub places : ℕ → ℕ
places n = if nat_lt n (2 ^ 32) then 8 else 9

-- a position in bytes, in hexadecimal
unfoldable pub position_text : ℕ → List ℕ
position_text n = (48 ∷ 120 ∷ []) ++ hex_digits (places n) n

-- the blanks between two words of a line
abbrev pub gap : List ℕ
gap = 32 ∷ 32 ∷ []

-- the line of a run
unfoldable pub run_line : Run → List ℕ
run_line r = position_text r.at ++ gap ++ position_text r.size ++ gap ++ (status_byte r.status ∷ 10 ∷ [])

-- the lines of runs
abbrev pub run_lines : List Run → List ℕ
run_lines rs = flat_map run_line rs

-- a comment that says who made the map
unfoldable pub made_by : List ℕ
made_by = codes "# Mapfile. Created by udfsalvage 0.1.0" ++ 10 ∷ []

-- the comment of a list of blocks to read again, as a line
unfoldable pub mark_line : List ℕ
mark_line = mark ++ 10 ∷ []

-- the status line, which the runs follow
unfoldable pub status_line : List ℕ
status_line = codes "0x00000000     +               1" ++ 10 ∷ []

-- the map of the blocks up to the last one
abbrev pub map_text : (ℕ → RunStatus) → ℕ → List ℕ
map_text status last = (made_by ++ status_line) ++ run_lines (runs_of_blocks status 0 (last + 1))

-- the map in which these blocks are wanted: the same with its mark
abbrev pub domain_text : List ℕ → ℕ → List ℕ
domain_text wanted last = (made_by ++ mark_line ++ status_line) ++ run_lines (runs_of_blocks (wanted_status wanted) 0 (last + 1))
