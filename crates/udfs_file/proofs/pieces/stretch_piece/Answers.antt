use Rattle.std.proofs.Common.{ap, subst, ◌+◌, arith}
use Rattle.udfs_space.specs.Views.{view_now}
use Rattle.udfs_file.specs.Pieces.{IsPieceOf}
use Rattle.udfs_file.proofs.PieceCells.{recorded_part, zero_part, gap_piece}
use Rattle.udfs_file.proofs.pieces.stretch_piece.Goals as goal

pub returns-in-Recorded : goal.returns-in-Recorded
returns-in-Recorded c = subst (IsPieceOf c.recorded_piece.result) (recorded_part (view_now c.args.view) c.args.stretch c.in-Recorded.run' c.in-Recorded.count c.args.passed c.args.want
    (c.from.result + c.args.passed) c.min.result c.in-Recorded.is c.requires.left (ap (λ n. n + c.args.passed) c.from.ensures) (omega (arith, c.min.ensures, c.min-here.ensures, c.from-in-Recorded.ensures))) c.recorded_piece.ensures

pub returns-in-Zeros : goal.returns-in-Zeros
returns-in-Zeros c = zero_part (view_now c.args.view) c.args.stretch c.in-Zeros.count c.args.passed c.args.want c.min-here-in-Zeros.result c.zeros.result.now
    c.in-Zeros.is c.requires.left (omega (arith, c.min-here-in-Zeros.ensures, c.from-in-Zeros.ensures)) c.zeros.ensures

pub returns-in-Missing : goal.returns-in-Missing
returns-in-Missing c = gap_piece (view_now c.args.view) c.args.stretch c.in-Missing.n c.in-Missing.field-1 c.args.passed c.args.want c.in-Missing.is c.requires.left c.requires.some
