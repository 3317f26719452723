-- Blocks are appended to a run one after another (internal).
use Rattle.std.specs.Prelude.{◌≡◌, Bool, true, false, List, ◌++◌, ℕ}
use Rattle.udfs_reading.specs.Writing.{Passed}
use Rattle.udfs_rescue.specs.declared.run.Run.{Run}
use Rattle.udfs_rescue.specs.Writing.{joined_run, run_lines, made_by, mark_line, status_line}
use Rattle.udfs_reading.specs.Device.{Stream}

-- the lines before the runs of a map: with the mark of a list of blocks to read again, or without it
abbrev pub heading : Bool → List ℕ
heading true = made_by ++ mark_line ++ status_line
heading false = made_by ++ status_line

-- the complete lines were taken, and `after` is the run that follows them
pub record TakesRun (old new : Stream) (held still : List ℕ) (before after next : Run) : Type 0 where
  pub done : List ℕ
  pub passed : Passed old new held still done
  pub text : (rest : List Run) → run_lines (joined_run before (joined_run next rest)) ≡ done ++ run_lines (joined_run after rest)
