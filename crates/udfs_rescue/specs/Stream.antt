-- A mapfile that comes byte by byte.
use Rattle.std.specs.Prelude.{◌≡◌, ℕ, ◌+◌, ◌%◌, ◌^◌, List, [], Option, IfSome, Result, Ok, Err, take, if◌then◌else◌}
use Rattle.udfs_reading.specs.Answers.{HadGiven}
use Rattle.udfs_rescue.specs.declared.run.Run.{Run}
use Rattle.udfs_rescue.specs.declared.fault.LineFault.{LineFault}
use Rattle.udfs_rescue.specs.declared.fault.MapError.{MapError}
use Rattle.udfs_rescue.specs.declared.fault.MapError.TheVariants as errors
use Rattle.udfs_rescue.specs.declared.fault.MapFault.{MapFault}
use Rattle.udfs_rescue.specs.declared.fault.MapFault.TheVariants.{NotPass}
use Rattle.udfs_rescue.specs.declared.stream.MapReader.{MapReader}
use Rattle.udfs_rescue.specs.Lines.{Progress, is_mark, after_text, after_lines, next_line, onto, lines_of, outcome, HasNoFaultYet}
use Rattle.udfs_rescue.specs.Held.{Keeps}
use Rattle.udfs_rescue.specs.Views.{Refuses}

-- what the reader has taken so far: `says` gives the outcome of the whole, for any bytes that follow
pub record StandsFor (r : MapReader) (says : List ℕ → Result (List Run) LineFault) : Type 0 where
  pub line : List ℕ
  pub front : r.front.kept.items ≡ take 68 line
  pub keeps : Keeps r.held.held.items r.held.comment r.held.blank line
  pub left : (rest : List ℕ) → says rest ≡ after_lines r.line r.runs (onto line (lines_of rest))

-- what the line comes to of which this is kept: its first 68 bytes, and the front of its text
abbrev pub comes_to : MapReader → Result Progress MapFault
comes_to r = if is_mark r.front.kept.items then Err NotPass else after_text r.runs r.held.held.items

-- a line was taken
pub record EndsLine (old new : MapReader) : Type 0 where
  pub took : comes_to old ≡ Ok new.runs
  pub next : new.line ≡ next_line old.line
  pub none : new.front.kept.items ≡ []
  pub fresh : Keeps new.held.held.items new.held.comment new.held.blank []

-- a line has a fault
abbrev pub LineFails : MapReader → MapError → Type 0
LineFails old errors.OutOfMemory = Unit {0}
LineFails old errors.Io = ⊥
LineFails old (errors.Line f) = (comes_to old ≡ Err f.fault) × (f.line ≡ old.line)

-- why a mapfile was not read, by what the source had and has left, where that is known, and its counts of faults
abbrev pub MapFails : Option (List ℕ) → Option (List ℕ) → ℕ → ℕ → MapError → Type 0
MapFails old new i j errors.Io = (j ≡ (i + 1) % 2 ^ 64) × HadGiven old new HasNoFaultYet
MapFails old new i j e = (j ≡ i) × IfSome old (λ bytes. Refuses e (outcome bytes))

-- what reading to the end of the source gave
abbrev pub ReadsMap : Option (List ℕ) → Option (List ℕ) → ℕ → ℕ → Result (List Run) MapError → Type 0
ReadsMap old new i j (Ok runs) = (j ≡ i) × IfSome old (λ bytes. outcome bytes ≡ Ok runs)
ReadsMap old new i j (Err e) = MapFails old new i j e
