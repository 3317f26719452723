use Rattle.std.proofs.Common.{ap, subst, ◌+◌, arith}
use Rattle.udfs_space.specs.Views.{view_by}
use Rattle.udfs_file.specs.Pieces.{IsPieceOf}
use Rattle.udfs_file.proofs.PieceCells.{recorded_part, zero_part, gap_piece}
use Rattle.udfs_file.proofs.pieces.stretch_in.Goals as goal

pub returns-in_ok-piece-in-Recorded-clause-value : goal.returns-in_ok-piece-in-Recorded-clause-value
returns-in_ok-piece-in-Recorded-clause-value g c told = subst (IsPieceOf c.in_ok-piece-in-Recorded.piece) (recorded_part (view_by g.B.BlockStore.states c.args.view) c.args.stretch c.in-Recorded.run' c.in-Recorded.count c.args.passed c.args.want
    (c.from.result + c.args.passed) c.min.result c.in-Recorded.is c.requires.left (ap (λ n. n + c.args.passed) c.from.ensures) (omega (arith, c.min.ensures, c.min-here.ensures, c.from-in-Recorded.ensures))) (c.in_ok-piece-in-Recorded.ensures.value told)

pub returns-in-Zeros-clause-value : goal.returns-in-Zeros-clause-value
returns-in-Zeros-clause-value g c told = zero_part (view_by g.B.BlockStore.states c.args.view) c.args.stretch c.in-Zeros.count c.args.passed c.args.want c.min-here-in-Zeros.result c.zeros.result.now
    c.in-Zeros.is c.requires.left (omega (arith, c.min-here-in-Zeros.ensures, c.from-in-Zeros.ensures)) c.zeros.ensures

pub returns-in-Missing-clause-value : goal.returns-in-Missing-clause-value
returns-in-Missing-clause-value g c told = gap_piece (view_by g.B.BlockStore.states c.args.view) c.args.stretch c.in-Missing.n c.in-Missing.field-1 c.args.passed c.args.want c.in-Missing.is c.requires.left c.requires.some
