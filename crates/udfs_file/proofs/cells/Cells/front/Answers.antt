use Rattle.std.proofs.Common.{◌≡◌, ◌≤◌, ◌∙◌, sym, ap, length, take, min, arith}
use Rattle.udfs_file.specs.CellsLeft.{cells_left, room}
use Rattle.udfs_file.proofs.FrontPieces.{one_piece, two_pieces, gap_second, first_bytes, joined_front}
use Rattle.udfs_file.proofs.cells.Cells.front.Goals as goal

pub returns-then-first-want : goal.returns-then-first-want
returns-then-first-want c = let w = one_piece (take c.args.want (cells_left c.args.self.now)) c.in-Bytes.holder c.in-Bytes.first.now some
    (ap (take c.args.want) (sym c.settled-ahead.ensures.cells) ∙ ap (λ n. take n (cells_left c.settled-ahead.result)) all ∙ c.in-Bytes.ensures.cells) in
    record { no_missing = w.0; values = w.1; holder = w.2 }
  where
    long : length c.in-Bytes.first.now ≡ min c.args.want (room c.settled-ahead.result)
    long = c.in-Bytes.ensures.size

    some : 1 ≤ length c.in-Bytes.first.now
    some = first_bytes c.args.self.now c.settled-ahead.result c.args.want (length c.in-Bytes.first.now) c.settled-ahead.ensures.cells c.settled-ahead.ensures.settled c.requires.some c.requires.there long

    all : c.args.want ≡ min c.args.want (room c.settled-ahead.result)
    all = omega (arith, long, c.if-first-want.true)

pub returns-in-Gap-first_piece : goal.returns-in-Gap-first_piece
returns-in-Gap-first_piece c = gap_second (take c.args.want (cells_left c.args.self.now)) c.in-Gap-first_piece.ensures.cells.0 c.in-Bytes.holder c.in-Bytes.first.now c.in-Gap-first_piece.n
    (joined_front c.args.self.now c.settled-ahead.result c.behind.result c.settled-behind.result c.args.want c.in-Bytes.holder c.in-Bytes.first.now _
    c.settled-ahead.ensures.cells c.settled-ahead.ensures.settled c.settled-ahead.ensures.lies
    c.behind.ensures.cells c.behind.ensures.starts c.behind.ensures.lies
    c.settled-behind.ensures.cells c.settled-behind.ensures.settled c.settled-behind.ensures.starts c.settled-behind.ensures.lies
    c.requires.lies c.requires.some c.requires.block c.requires.there c.in-Bytes.ensures.size c.if-first-want.false c.in-Bytes.ensures.cells c.in-Gap-first_piece.ensures.cells.1)

pub returns-in-Bytes-first_piece : goal.returns-in-Bytes-first_piece
returns-in-Bytes-first_piece c = let w = two_pieces (take c.args.want (cells_left c.args.self.now)) c.in-Bytes.holder _ c.in-Bytes.first.now c.in-Bytes-first_piece.second.now
    (first_bytes c.args.self.now c.settled-ahead.result c.args.want (length c.in-Bytes.first.now) c.settled-ahead.ensures.cells c.settled-ahead.ensures.settled c.requires.some c.requires.there c.in-Bytes.ensures.size)
    (joined_front c.args.self.now c.settled-ahead.result c.behind.result c.settled-behind.result c.args.want c.in-Bytes.holder c.in-Bytes.first.now _
    c.settled-ahead.ensures.cells c.settled-ahead.ensures.settled c.settled-ahead.ensures.lies
    c.behind.ensures.cells c.behind.ensures.starts c.behind.ensures.lies
    c.settled-behind.ensures.cells c.settled-behind.ensures.settled c.settled-behind.ensures.starts c.settled-behind.ensures.lies
    c.requires.lies c.requires.some c.requires.block c.requires.there c.in-Bytes.ensures.size c.if-first-want.false c.in-Bytes.ensures.cells c.in-Bytes-first_piece.ensures.cells) in
    record { no_missing = w.0; values = w.1; holder = w.2 }
