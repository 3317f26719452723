-- What a run over the inputs of a disc prints and returns.
--     PrintsOfBy profile             the text of the table's report, by the rules of a profile
--     IsRefusedForBy profile table last e    why the table has no report
--     Runs                           the inputs' tables, and what was printed of their join
use Rattle.std.specs.Prelude.{◌≡◌, ◌⊎◌, ⊤, ℕ, Bool, List, [], Option, Result, Ok, Err}
use Rattle.std.specs.Io.KnownBytes.{Appends}
use Rattle.udfs_volume.specs.declared.profiles.Profile.{Profile}
use Rattle.udfs_volume.specs.declared.profiles.Profile.TheVariants.{Strict}
use Rattle.udfs_lattice.specs.Tables.{Table, state_of}
use Rattle.udfs_lattice.specs.Records.{join_all}
use Rattle.udfs_reading.specs.Answers.{IsOfFile}
use Rattle.udfs_reading.specs.Several.{TablesAre}
use Rattle.udfs_reading.specs.declared.inputs.InputError.{InputError}
use Rattle.udfs_reading.specs.declared.error.ReadingFault.{ReadingFault}
use Rattle.udfs_reading.specs.declared.error.ReadingFault.TheVariants as reading
use Rattle.udfs_salvage.specs.Headline.{HeadlineBy}
use Rattle.udfs_salvage.specs.Reports.{Report, IsNothingPast, IsOutOfRange, IsPastEnd, HasTooManyPathsBy, all_whole}
use Rattle.udfs_salvage.specs.TreeReports.{AgreesWithNoneBy}
use Rattle.udfs_salvage.specs.NodeTexts.{report_text_by}
use Rattle.udfs_salvage.specs.Printing.{Prints}
use Rattle.udfs_salvage.specs.declared.errors.SalvageError.{SalvageError}
use Rattle.udfs_salvage.specs.declared.errors.SalvageError.TheVariants as salvage
use Rattle.udfs_salvage.specs.declared.errors.RunError.{RunError}
use Rattle.udfs_salvage.specs.declared.errors.RunError.TheVariants.{Reading, Salvage, Write, OutOfMemory}
use Rattle.udfs_reading.specs.Device.{Stream}

-- why a table has no report: the first reason in order
abbrev pub IsRefusedForBy : Profile → Table → ℕ → SalvageError → Type 0
IsRefusedForBy profile table last salvage.LastRange = IsOutOfRange last
IsRefusedForBy profile table last (salvage.PastEnd n) = (¬ IsOutOfRange last) × IsPastEnd (state_of table) last n
IsRefusedForBy profile table last salvage.TooManyPaths = (¬ IsOutOfRange last) × IsNothingPast (state_of table) last × HasTooManyPathsBy profile (state_of table) last
IsRefusedForBy profile table last salvage.OutOfMemory = ⊥

-- the same by the strict rules
abbrev pub IsRefusedFor : Table → ℕ → SalvageError → Type 0
IsRefusedFor = IsRefusedForBy Strict

-- each input has a table, and this holds of their join
abbrev pub OfJoin : {R : Type 0} → (R → Option (List ℕ)) → List R → (Table → Type 0) → Type 0
OfJoin remaining inputs Holds = (ts : List Table) × TablesAre remaining inputs ts × Holds (join_all ts)

-- where the run succeeds, it returns whether there are nodes and all are whole
abbrev pub SaysWhole : Result Bool RunError → Report → Type 0
SaysWhole (Ok whole) report = whole ≡ all_whole report.nodes
SaysWhole (Err e) report = ⊤

-- the text of the table's report was printed, or a beginning of it; and of that report all holds that is promised of reports
pub record PrintsOfBy (profile : Profile) (last : ℕ) (old new : Stream) (result : Result Bool RunError) (table : Table) : Type 0 where
  pub report : Report
  pub headline : HeadlineBy profile (state_of table) last report
  pub prints : Prints old new (report_text_by profile table last report) result
  pub says : SaysWhole result report

-- the same by the strict rules
abbrev pub PrintsOf : ℕ → Stream → Stream → Result Bool RunError → Table → Type 0
PrintsOf = PrintsOfBy Strict

-- nothing was printed
pub record PrintsNothing (old new : Stream) : Type 0 where
  pub given : Appends old.contents new.contents []
  pub kept : new.faults ≡ old.faults

-- a run prints the report of its inputs' table, or a beginning of it; or it returns why there is no report, and then no lawful volume agrees with the table
abbrev pub AnswersForBy : Profile → ℕ → Stream → Stream → Result Bool RunError → Table → Type 0
AnswersForBy profile last old new (Ok x) table = PrintsOfBy profile last old new (Ok x) table
AnswersForBy profile last old new (Err (Reading e)) table = ⊥
AnswersForBy profile last old new (Err (Salvage e)) table = IsRefusedForBy profile table last e × AgreesWithNoneBy profile (state_of table) last
AnswersForBy profile last old new (Err Write) table = PrintsOfBy profile last old new (Err Write) table
AnswersForBy profile last old new (Err OutOfMemory) table = PrintsNothing old new ⊎ PrintsOfBy profile last old new (Err OutOfMemory) table

-- the same by the strict rules
abbrev pub AnswersFor : ℕ → Stream → Stream → Result Bool RunError → Table → Type 0
AnswersFor = AnswersForBy Strict

-- where the result alone shows that the inputs were read: memory may have run out before that
abbrev pub IfRead : Result Bool RunError → Type 0 → Type 0
IfRead (Ok x) Holds = Holds
IfRead (Err (Reading e)) Holds = ⊤
IfRead (Err (Salvage e)) Holds = Holds
IfRead (Err Write) Holds = Holds
IfRead (Err OutOfMemory) Holds = ⊤

-- no input was to blame
abbrev pub IfNoInput : Result Bool RunError → Type 0 → Type 0
IfNoInput (Ok x) Holds = Holds
IfNoInput (Err (Reading e)) Holds = ⊤
IfNoInput (Err (Salvage e)) Holds = Holds
IfNoInput (Err Write) Holds = Holds
IfNoInput (Err OutOfMemory) Holds = Holds

-- the table has no report for this reason: the error says so, unless an input could not be read or memory ran out
abbrev pub RefusesWith : SalvageError → RunError → Type 0
RefusesWith why (Reading e) = ⊤
RefusesWith why (Salvage e) = e ≡ why
RefusesWith why Write = ⊥
RefusesWith why OutOfMemory = ⊤

-- it ended before anything was written
abbrev pub EndsEarly : Result Bool RunError → Type 0
EndsEarly (Ok x) = ⊥
EndsEarly (Err (Reading e)) = ⊤
EndsEarly (Err (Salvage e)) = ⊤
EndsEarly (Err Write) = ⊥
EndsEarly (Err OutOfMemory) = ⊥

-- what a run without a report says where an input is the first that is no good file
abbrev pub Names : ℕ → ReadingFault → ℕ → RunError → Type 0
Names input fault number (Reading e) = IsOfFile e.error.fault → (e.input ≡ input) × (e.error.fault ≡ fault) × (e.error.number ≡ number)
Names input fault number (Salvage e) = ⊥
Names input fault number Write = ⊥
Names input fault number OutOfMemory = ⊤

-- out of memory is no input's fault
abbrev pub by_fault : InputError → ReadingFault → RunError
by_fault e reading.OutOfMemory = OutOfMemory
by_fault e fault = Reading e

-- an input's error, as a run returns it
abbrev pub run_error_of : InputError → RunError
run_error_of e = by_fault e e.error.fault

-- and none of the table
abbrev pub salvage_run_error : SalvageError → RunError
salvage_run_error salvage.OutOfMemory = OutOfMemory
salvage_run_error e = Salvage e
