-- the bytes of the cells behind the portions that came are left
use Rattle.std.proofs.Common.{length}
use Rattle.udfs_space.specs.Views.{view_by}
use Rattle.udfs_file.specs.Stretches.{cells_of}
use Rattle.udfs_salvage.specs.Extraction.{filled}
use Rattle.udfs_salvage.proofs.Pieces.{Taken}
use Rattle.udfs_salvage.proofs.body_bytes.push_portions.Given as goal

abbrev pub invariant-portions : goal.invariant-portions
invariant-portions g l =
    let B = g.B.BlockStore in
    let W = g.W.Sink in
    B.tells → Taken (W.stream l.fn.sink) (W.stream l.sink) l.fn.out l.out (filled l.fill (cells_of (view_by B.states l.view) l.body)) (filled l.fill l.portions)

abbrev pub decreases-portions : goal.decreases-portions
decreases-portions g l = length l.portions
