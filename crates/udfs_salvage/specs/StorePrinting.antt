-- What printing of what a store of blocks says does to a sink whose bytes are known.
--     print_error why                 why a call on a store gave up, as printing reports it
--     leaves_as e                     the error of a table that leaves as much printed
--     PrintsBy old new text result    all of the text was written; or a beginning of it, and then came the error
--     PassesOnBy                      the same of text that is held before it is written
use Rattle.std.specs.Prelude.{ℕ, List, ◌++◌, Result, Ok, Err}
use Rattle.udfs_lattice.specs.declared.blocks.GaveUp.{GaveUp}
use Rattle.udfs_lattice.specs.declared.blocks.GaveUp.TheVariants as gave_up
use Rattle.udfs_reading.specs.Device.{Stream}
use Rattle.udfs_reading.specs.Writing.{Passed, Wrote}
use Rattle.udfs_salvage.specs.Printing.{Stopped}
use Rattle.udfs_salvage.specs.declared.errors.RunError.{RunError}
use Rattle.udfs_salvage.specs.declared.errors.RunError.TheVariants as run
use Rattle.udfs_salvage.specs.declared.errors.PrintError.{PrintError}
use Rattle.udfs_salvage.specs.declared.errors.PrintError.TheVariants.{Run, Unread}

-- memory ran out, or a read failed
abbrev pub print_error : GaveUp → PrintError
print_error gave_up.OutOfMemory = Run run.OutOfMemory
print_error gave_up.Unread = Unread

-- a read that failed leaves what is left where memory ran out: a beginning of the text, and a sink that has not failed
abbrev pub leaves_as : PrintError → RunError
leaves_as (Run e) = e
leaves_as Unread = run.OutOfMemory

-- the whole text is out; or a beginning of it, and then the sink or a read failed, or memory ran out
abbrev pub PrintsBy : {X : Type 0} → Stream → Stream → List ℕ → Result X PrintError → Type 0
PrintsBy old new text (Ok x) = Wrote old new text
PrintsBy old new text (Err e) = Stopped old new text (leaves_as e)

-- the text was appended to what was held, and a beginning of the two was written; or the error came when a beginning of them had been written
abbrev pub PassesOnBy : {X : Type 0} → Stream → Stream → List ℕ → List ℕ → List ℕ → Result X PrintError → Type 0
PassesOnBy old new held still text (Ok x) = Passed old new held still text
PassesOnBy old new held still text (Err e) = Stopped old new (held ++ text) (leaves_as e)
