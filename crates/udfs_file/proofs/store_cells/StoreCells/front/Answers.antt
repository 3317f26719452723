use Rattle.std.proofs.Common.{◌≡◌, ◌≤◌, ◌∙◌, sym, ap, length, take, min, arith, ◌-◌, length-append}
use Rattle.udfs_file.specs.Fronts.{first_missing}
use Rattle.udfs_file.specs.StoreCells.{store_left, store_room}
use Rattle.udfs_file.proofs.FrontPieces.{one_piece, two_pieces, gap_of_more, gap_second}
use Rattle.udfs_file.proofs.StorePieces.{first_bytes, joined_front, joined_room}
use Rattle.udfs_file.proofs.store_cells.StoreCells.front.Goals as goal

pub returns-then-first-want-clause-value : goal.returns-then-first-want-clause-value
returns-then-first-want-clause-value g c told = let w = one_piece (take c.args.want (store_left g.B.BlockStore.states c.args.self.now)) c.in-Bytes.holder c.in-Bytes.first.now some
    (ap (take c.args.want) (sym c.settled-ahead.ensures.cells) ∙ ap (λ n. take n (store_left g.B.BlockStore.states c.settled-ahead.result)) all ∙ (rw c.in-Bytes.is at (c.in_ok-n.ensures.cells told))) in
    record { no_missing = w.0; values = w.1; holder = w.2 }
  where
    long : length c.in-Bytes.first.now ≡ min c.args.want (store_room c.settled-ahead.result)
    long = (rw c.in-Bytes.is at c.in_ok-n.ensures.size)

    some : 1 ≤ length c.in-Bytes.first.now
    some = first_bytes g.B.BlockStore.states c.args.self.now c.settled-ahead.result c.args.want (length c.in-Bytes.first.now) c.settled-ahead.ensures.cells c.settled-ahead.ensures.settled c.requires.some c.requires.there long

    all : c.args.want ≡ min c.args.want (store_room c.settled-ahead.result)
    all = omega (arith, long, c.if-first-want.true)

pub returns-in-Gap-2-clause-value : goal.returns-in-Gap-2-clause-value
returns-in-Gap-2-clause-value g c told = gap_second (take c.args.want (store_left g.B.BlockStore.states c.args.self.now)) (rw c.in-Gap-2.is at (c.in_ok-n-2.ensures.cells told)).0 c.in-Bytes.holder c.in-Bytes.first.now c.in-Gap-2.n
    (joined_front g.B.BlockStore.states c.args.self.now c.settled-ahead.result c.behind.result c.settled-behind.result c.args.want c.in-Bytes.holder c.in-Bytes.first.now _
    c.settled-ahead.ensures.cells c.settled-ahead.ensures.settled c.settled-ahead.ensures.lies
    c.behind.ensures.cells c.behind.ensures.starts c.behind.ensures.lies
    c.settled-behind.ensures.cells c.settled-behind.ensures.settled c.settled-behind.ensures.starts c.settled-behind.ensures.lies
    c.requires.lies c.requires.some c.requires.block c.requires.there (rw c.in-Bytes.is at c.in_ok-n.ensures.size) c.if-first-want.false (rw c.in-Bytes.is at (c.in_ok-n.ensures.cells told)) (rw c.in-Gap-2.is at (c.in_ok-n-2.ensures.cells told)).1)

pub returns-in-Bytes-2-clause-value : goal.returns-in-Bytes-2-clause-value
returns-in-Bytes-2-clause-value g c told = let w = two_pieces (take c.args.want (store_left g.B.BlockStore.states c.args.self.now)) c.in-Bytes.holder _ c.in-Bytes.first.now c.in-Bytes-2.second.now
    (first_bytes g.B.BlockStore.states c.args.self.now c.settled-ahead.result c.args.want (length c.in-Bytes.first.now) c.settled-ahead.ensures.cells c.settled-ahead.ensures.settled c.requires.some c.requires.there (rw c.in-Bytes.is at c.in_ok-n.ensures.size))
    (joined_front g.B.BlockStore.states c.args.self.now c.settled-ahead.result c.behind.result c.settled-behind.result c.args.want c.in-Bytes.holder c.in-Bytes.first.now _
    c.settled-ahead.ensures.cells c.settled-ahead.ensures.settled c.settled-ahead.ensures.lies
    c.behind.ensures.cells c.behind.ensures.starts c.behind.ensures.lies
    c.settled-behind.ensures.cells c.settled-behind.ensures.settled c.settled-behind.ensures.starts c.settled-behind.ensures.lies
    c.requires.lies c.requires.some c.requires.block c.requires.there (rw c.in-Bytes.is at c.in_ok-n.ensures.size) c.if-first-want.false (rw c.in-Bytes.is at (c.in_ok-n.ensures.cells told)) (rw c.in-Bytes-2.is at (c.in_ok-n-2.ensures.cells told))) in
    record { no_missing = w.0; values = w.1; holder = w.2 }

pub returns-in-Gap-clause-value : goal.returns-in-Gap-clause-value
returns-in-Gap-clause-value g c told =
    let missing = rw c.in-Gap.is at (c.in_ok-n.ensures.cells told) in
    ap (λ cs. first_missing (take c.args.want cs)) (sym c.settled-ahead.ensures.cells)
    ∙ gap_of_more (min c.args.want (store_room c.settled-ahead.result)) c.args.want (store_left g.B.BlockStore.states c.settled-ahead.result) missing.0 c.in-Gap.n (omega arith) missing.1

pub returns-in-Bytes-2-clause-size : goal.returns-in-Bytes-2-clause-size
returns-in-Bytes-2-clause-size g c =
    let first : length c.in-Bytes.first.now ≡ min c.args.want (store_room c.settled-ahead.result) = (rw c.in-Bytes.is at c.in_ok-n.ensures.size) in
    let second : length c.in-Bytes-2.second.now ≡ min (c.args.want - length c.in-Bytes.first.now) (store_room c.settled-behind.result) = (rw c.in-Bytes-2.is at c.in_ok-n-2.ensures.size) in
    let fits : c.args.want - length c.in-Bytes.first.now ≤ store_room c.settled-behind.result = joined_room g.B.BlockStore.states c.args.self.now c.settled-ahead.result c.behind.result c.settled-behind.result c.args.want (length c.in-Bytes.first.now)
    c.settled-ahead.ensures.cells c.settled-ahead.ensures.settled c.settled-ahead.ensures.lies
    c.behind.ensures.cells c.behind.ensures.starts c.behind.ensures.lies
    c.settled-behind.ensures.cells c.settled-behind.ensures.settled c.settled-behind.ensures.starts c.settled-behind.ensures.lies
    c.requires.lies c.requires.some c.requires.block c.requires.there first c.if-first-want.false in
    length-append c.in-Bytes.first.now c.in-Bytes-2.second.now ∙ omega (arith, first, second, fits)
