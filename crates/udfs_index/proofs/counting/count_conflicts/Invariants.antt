-- Of the blocks before this one, those in conflict were counted.
use Rattle.std.proofs.Common.{◌≡◌, ◌≤◌, ℕ, List}
use Rattle.std.specs.List.{count_by}
use Rattle.udfs_lattice.specs.States.{State, is_conflict}
use Rattle.udfs_lattice.specs.Tables.{Table}
use Rattle.udfs_index.specs.Copying.{IsShown}
use Rattle.udfs_index.proofs.EntryLemmas.{entries_below}
use Rattle.udfs_index.proofs.counting.count_conflicts.Given as goal

abbrev pub invariant-loop-block : goal.invariant-loop-block
invariant-loop-block l =
    record {
      few : l.count ≤ l.block;
      counted : (wholes : List (List ℕ)) (t : Table) → IsShown wholes l.packets t → l.count ≡ count_by (λ (e : ℕ × State). is_conflict e.1) (entries_below t l.block);
    }
