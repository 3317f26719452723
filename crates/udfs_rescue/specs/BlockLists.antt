-- A list of blocks: decimal numbers, one a line.
--     list_outcome bytes     the numbers of the lines, or the first line that is no block number
use Rattle.std.specs.Prelude.{◌≡◌, ℕ, ◌+◌, ◌%◌, ◌^◌, Bool, cond, List, [], ◌∷◌, ◌++◌, length, Option, None, Some, IfSome, Result, Ok, Err, min, nat_le, ◌==◌, if◌then◌else◌}
use Rattle.udfs_reading.specs.Answers.{HadGiven}
use Rattle.udfs_rescue.specs.declared.list.ListError.{ListError}
use Rattle.udfs_rescue.specs.declared.list.ListError.TheVariants as errors
use Rattle.udfs_rescue.specs.declared.list.ListReader.{ListReader}
use Rattle.udfs_rescue.specs.Numbers.{decimal_of, digits_from}
use Rattle.udfs_rescue.specs.Lines.{lines_of, next_line, onto}

-- without the CR at the end, if one is there
abbrev pub without_return : List ℕ → List ℕ
without_return [] = []
without_return (b ∷ []) = if b == 13 then [] else b ∷ []
without_return (b ∷ c ∷ bs) = b ∷ without_return (c ∷ bs)

-- a number that is that of a block
abbrev pub up_to_last : Option ℕ → Option ℕ
up_to_last None = None
up_to_last (Some n) = if nat_le n 4194303 then Some n else None

-- the block that a line names: decimal digits, and no more than the last block
abbrev pub block_number : List ℕ → Option ℕ
block_number line = up_to_last (decimal_of line)

-- the numbers so far and that of the last line, which no LF ends; an empty last line is ignored
abbrev pub with_last : ℕ → List ℕ → List ℕ → Result (List ℕ) ℕ
with_last n so_far [] = Ok so_far
with_last n so_far (b ∷ bs) = elim (block_number (b ∷ bs)) as (λ r. Result (List ℕ) ℕ) [ Some k ↦ Ok (so_far ++ k ∷ []) | None ↦ Err n ]

-- the numbers so far and those of these lines, the first of which is line n; or the first line that is no block number
abbrev pub with_lines : ℕ → List ℕ → List (List ℕ) → Result (List ℕ) ℕ
with_lines n so_far [] = Ok so_far
with_lines n so_far (line ∷ []) = with_last n so_far line
with_lines n so_far (line ∷ next ∷ lines) = elim (block_number (without_return line)) as (λ r. Result (List ℕ) ℕ) [ Some k ↦ with_lines (next_line n) (so_far ++ k ∷ []) (next ∷ lines) | None ↦ Err n ]

-- the outcome for every list of bytes
abbrev pub list_outcome : List ℕ → Result (List ℕ) ℕ
list_outcome bytes = with_lines 1 [] (lines_of bytes)

-- whatever follows these bytes, the lines that they end have no fault: the outcome is that of the line begun, and of what follows
pub record NoneWrongYet (got : List ℕ) : Type 0 where
  pub line : ℕ
  pub so_far : List ℕ
  pub begun : List ℕ
  pub whatever : (rest : List ℕ) → list_outcome (got ++ rest) ≡ with_lines line so_far (onto begun (lines_of rest))

-- ---- what the results say

-- the error is the first line that is no block number, or memory ran out
abbrev pub RefusesList : ListError → Result (List ℕ) ℕ → Type 0
RefusesList errors.OutOfMemory says = Unit {0}
RefusesList errors.Io says = ⊥
RefusesList (errors.Line n) says = says ≡ Err n

-- the outcome is this one, unless memory ran out
abbrev pub ParsesList : Result (List ℕ) ListError → Result (List ℕ) ℕ → Type 0
ParsesList (Ok numbers) says = says ≡ Ok numbers
ParsesList (Err e) says = RefusesList e says

-- why reading a list failed: its device failed, it has this first fault, or memory ran out
abbrev pub ListFails : ListError → Result (List ℕ) ℕ → Type 0
ListFails errors.Io says = Unit {0}
ListFails e says = RefusesList e says

-- the outcome is this one, unless memory ran out or the device failed
abbrev pub ReadsList : Result (List ℕ) ListError → Result (List ℕ) ℕ → Type 0
ReadsList (Ok numbers) says = says ≡ Ok numbers
ReadsList (Err e) says = ListFails e says

-- ---- a list that comes byte by byte (internal)

-- a number as it is kept: of one above the last block only that it is above
abbrev pub number_kept : Option ℕ → Option ℕ
number_kept None = None
number_kept (Some n) = Some (min n 4194304)

-- whether a line has no byte, and the number of its digits
abbrev pub TellsLineBody : Bool → Option ℕ → List ℕ → Type 0
TellsLineBody empty number body = (empty ≡ (length body == 0)) × (number ≡ number_kept (digits_from 10 0 body))

-- what is kept of a line: the same of it without the CR at its end, and whether there is one
pub record TellsLine (empty : Bool) (number : Option ℕ) (returned : Bool) (line : List ℕ) : Type 0 where
  pub body : TellsLineBody empty number (without_return line)
  pub whole : line ≡ without_return line ++ cond returned (13 ∷ []) []

-- what the reader has taken so far: `says` gives the outcome of the whole, for any bytes that follow
pub record StandsList (r : ListReader) (says : List ℕ → Result (List ℕ) ℕ) : Type 0 where
  pub line : List ℕ
  pub keeps : TellsLine r.line.empty r.line.number r.line.returned line
  pub left : (rest : List ℕ) → says rest ≡ with_lines r.at r.numbers.items (onto line (lines_of rest))

-- a line that LF ended was taken
pub record TakesLine (old new : ListReader) : Type 0 where
  pub block : ℕ
  pub took : (line : List ℕ) → TellsLine old.line.empty old.line.number old.line.returned line → block_number (without_return line) ≡ Some block
  pub more : new.numbers.items ≡ old.numbers.items ++ block ∷ []
  pub next : new.at ≡ next_line old.at
  pub fresh : TellsLine new.line.empty new.line.number new.line.returned []

-- a line that LF ended is no block number, or memory ran out
abbrev pub RefusesLine : ListReader → ListError → Type 0
RefusesLine old errors.OutOfMemory = Unit {0}
RefusesLine old errors.Io = ⊥
RefusesLine old (errors.Line n) = ((line : List ℕ) → TellsLine old.line.empty old.line.number old.line.returned line → block_number (without_return line) ≡ None) × (n ≡ old.at)

-- why a list was not read, by what the source had and has left, where that is known, and its counts of faults
abbrev pub NoList : Option (List ℕ) → Option (List ℕ) → ℕ → ℕ → ListError → Type 0
NoList old new i j errors.Io = (j ≡ (i + 1) % 2 ^ 64) × HadGiven old new NoneWrongYet
NoList old new i j e = (j ≡ i) × IfSome old (λ bytes. RefusesList e (list_outcome bytes))

-- what reading to the end of the source gave
abbrev pub GivesList : Option (List ℕ) → Option (List ℕ) → ℕ → ℕ → Result (List ℕ) ListError → Type 0
GivesList old new i j (Ok numbers) = (j ≡ i) × IfSome old (λ bytes. list_outcome bytes ≡ Ok numbers)
GivesList old new i j (Err e) = NoList old new i j e
