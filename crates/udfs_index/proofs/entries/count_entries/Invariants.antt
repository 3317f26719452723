-- The entries of the blocks before this one were counted.
use Rattle.std.proofs.Common.{◌≡◌, ◌≤◌, ℕ, List, length}
use Rattle.udfs_lattice.specs.Tables.{Table}
use Rattle.udfs_index.specs.Copying.{IsShown}
use Rattle.udfs_index.proofs.EntryLemmas.{entries_below}
use Rattle.udfs_index.proofs.entries.count_entries.Given as goal

abbrev pub invariant-loop-block : goal.invariant-loop-block
invariant-loop-block l =
    record {
      few : l.count ≤ l.block;
      counted : (wholes : List (List ℕ)) (t : Table) → IsShown wholes l.packets t → l.count ≡ length (entries_below t l.block);
    }
