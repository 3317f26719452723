-- The blocks before this one were copied, and the window holds what stands in an input.
use Rattle.std.proofs.Common.{◌≡◌, ℕ, List, map, Some}
use Rattle.std.specs.List.{flat_map}
use Rattle.udfs_lattice.specs.Tables.{Table}
use Rattle.udfs_reading.specs.PacketFile.{states_from}
use Rattle.udfs_reading.specs.Writing.{Passed}
use Rattle.udfs_index.specs.Copying.{IsShown}
use Rattle.udfs_index.specs.Imaging.{filled}
use Rattle.udfs_index.specs.Index.{contents_of}
use Rattle.udfs_index.specs.Windows.{IsRead}
use Rattle.udfs_index.proofs.imaging.write_blocks.Given as goal

abbrev pub invariant-loop-block : goal.invariant-loop-block
invariant-loop-block g l =
    let W = g.W.Sink in
    record {
      read : IsRead (contents_of g.S.Stored.content l.inputs) l.window;
      bytes : (wholes : List (List ℕ)) (t : Table) → contents_of g.S.Stored.content l.inputs ≡ map Some wholes → IsShown wholes l.packets t →
          Passed (W.stream l.initial.sink) (W.stream l.sink) l.initial.out l.out (flat_map filled (states_from t 0 l.block));
      count : (W.stream l.sink).faults ≡ (W.stream l.initial.sink).faults;
    }
