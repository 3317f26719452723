use Rattle.std.specs.Prelude.{⊤}
use Rattle.udfs_space.specs.Views.{view_by}
use Rattle.udfs_file.specs.Stretches.{cells_of}
use Rattle.udfs_salvage.specs.Extraction.{filled}
use Rattle.udfs_salvage.proofs.Passing.{failed_last}
use Rattle.udfs_salvage.proofs.Pieces.{body_failed}
use Rattle.udfs_salvage.proofs.body_bytes.write_body.Goals as goal

pub returns-in-Err-clause-written : goal.returns-in-Err-clause-written
returns-in-Err-clause-written g c tells =
    body_failed ⊤ _ _ _ c.push_portions.new.out (filled c.args.fill (cells_of (view_by g.B.BlockStore.states c.args.view) c.args.body.now)) c.in-Err.fault c.requires (c.in-Err.ensures.passes tells)

pub returns-in-Err-flush-clause-written : goal.returns-in-Err-flush-clause-written
returns-in-Err-flush-clause-written g c tells = failed_last c.requires (c.in-Ok.ensures.passes tells) c.in-Err-flush.ensures.written
