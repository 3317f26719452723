-- What the code's values represent, and what its results say.
use Rattle.std.specs.Prelude.{◌≡◌, List, Option, None, Some, Result, Ok, Err, min, ◌^◌}
use Rattle.udfs_rescue.specs.declared.run.Run.{Run}
use Rattle.udfs_rescue.specs.declared.line.StepError.{StepError}
use Rattle.udfs_rescue.specs.declared.line.StepError.TheVariants as step
use Rattle.udfs_rescue.specs.declared.fault.MapError.{MapError}
use Rattle.udfs_rescue.specs.declared.fault.MapError.TheVariants as errors
use Rattle.udfs_rescue.specs.declared.fault.MapFault.{MapFault}
use Rattle.udfs_rescue.specs.declared.fault.LineFault.{LineFault}
use Rattle.udfs_rescue.specs.Lines.{Progress}

-- a run of which only that a number is too large is kept where it is
abbrev pub capped_run : Option Run → Option Run
capped_run None = None
capped_run (Some r) = Some (record { at = min r.at (2 ^ 63); size = min r.size (2 ^ 63); status = r.status })

-- a step came to this, or has this fault, unless memory ran out
abbrev pub StepFails : StepError → Result Progress MapFault → Type 0
StepFails step.OutOfMemory says = Unit {0}
StepFails (step.Fault fault) says = says ≡ Err fault

-- a step of the code is the one of the definitions
abbrev pub Steps : {X : Type 0} → Progress → Result X StepError → Result Progress MapFault → Type 0
Steps new (Ok x) says = says ≡ Ok new
Steps new (Err e) says = StepFails e says

-- the error is the first fault of the bytes, or memory ran out
abbrev pub Refuses : MapError → Result (List Run) LineFault → Type 0
Refuses errors.OutOfMemory says = Unit {0}
Refuses errors.Io says = ⊥
Refuses (errors.Line fault) says = says ≡ Err fault

-- the outcome is this one, unless memory ran out
abbrev pub Parses : Result (List Run) MapError → Result (List Run) LineFault → Type 0
Parses (Ok runs) says = says ≡ Ok runs
Parses (Err e) says = Refuses e says

-- why reading a map failed: its device failed, it has this first fault, or memory ran out
abbrev pub ReadFails : MapError → Result (List Run) LineFault → Type 0
ReadFails errors.Io says = Unit {0}
ReadFails e says = Refuses e says

-- the outcome is this one, unless memory ran out or the device failed
abbrev pub ReadsRuns : Result (List Run) MapError → Result (List Run) LineFault → Type 0
ReadsRuns (Ok runs) says = says ≡ Ok runs
ReadsRuns (Err e) says = ReadFails e says
