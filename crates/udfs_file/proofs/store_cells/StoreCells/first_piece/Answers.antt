use Rattle.std.proofs.Common.{IfOk, subst}
use Rattle.udfs_space.specs.Views.{view_by}
use Rattle.udfs_file.specs.Pieces.{IsPieceOf}
use Rattle.udfs_file.proofs.CellLemmas.{first_cells}
use Rattle.udfs_file.proofs.store_cells.StoreCells.first_piece.Goals as goal

pub returns-in-Some-clause-cells : goal.returns-in-Some-clause-cells
returns-in-Some-clause-cells g c = subst (λ cells. IfOk c.stretch_in.result (λ piece. g.B.BlockStore.tells → IsPieceOf piece cells))
    (first_cells (view_by g.B.BlockStore.states c.args.self.now.view) c.args.self.now.stretches.now c.in-Some.first.now c.in-Some.field-0-1.now c.args.self.now.passed c.args.want
    c.in-Some.ensures.cases.0 c.requires.settled) c.stretch_in.ensures.value
