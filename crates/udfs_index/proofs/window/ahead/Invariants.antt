-- So many bytes stand there.
use Rattle.std.proofs.Common.{ℕ, ◌≤◌, List}
use Rattle.udfs_index.specs.Places.{AreHeld, AreWhole}
use Rattle.udfs_index.proofs.window.ahead.Given as goal

abbrev pub invariant-loop-next : goal.invariant-loop-next
invariant-loop-next l =
    record {
      some : 2048 ≤ l.span;
      fits : l.span ≤ 65536;
      held : (wholes : List (List ℕ)) → AreWhole wholes l.packets → AreHeld wholes l.place l.span;
    }
