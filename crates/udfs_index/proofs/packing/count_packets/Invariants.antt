-- The packets before this one were counted.
use Rattle.std.proofs.Common.{◌≡◌, ◌≤◌, ℕ, List, length}
use Rattle.udfs_lattice.specs.Tables.{Table}
use Rattle.udfs_reading.specs.PacketFile.{packets_below}
use Rattle.udfs_index.specs.Copying.{IsShown}
use Rattle.udfs_index.proofs.packing.count_packets.Given as goal

abbrev pub invariant-loop-index : goal.invariant-loop-index
invariant-loop-index l =
    record {
      few : l.count ≤ l.index;
      counted : (wholes : List (List ℕ)) (t : Table) → IsShown wholes l.packets t → l.count ≡ length (packets_below t l.index);
    }
