use Rattle.std.proofs.Common.{subst}
use Rattle.udfs_space.specs.Views.{view_now}
use Rattle.udfs_file.specs.Pieces.{IsPieceOf}
use Rattle.udfs_file.proofs.CellLemmas.{first_cells, length_first, piece_fits}
use Rattle.udfs_file.proofs.cells.Cells.first_piece.Goals as goal

pub returns-in-Some-clause-cells : goal.returns-in-Some-clause-cells
returns-in-Some-clause-cells c = subst (IsPieceOf c.stretch_piece.result)
    (first_cells (view_now c.args.self.now.view) c.args.self.now.stretches.now c.in-Some.first.now c.in-Some.field-0-1.now c.args.self.now.passed c.args.want
    c.in-Some.ensures.cases.0 c.requires.settled) c.stretch_piece.ensures

pub returns-in-Some-clause-size : goal.returns-in-Some-clause-size
returns-in-Some-clause-size c = piece_fits c.stretch_piece.result _ _ c.stretch_piece.ensures
    (length_first (view_now c.args.self.now.view) c.args.self.now.stretches.now c.in-Some.first.now c.in-Some.field-0-1.now c.args.self.now.passed c.args.want
    c.in-Some.ensures.cases.0 c.requires.settled)
