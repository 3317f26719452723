use Rattle.std.proofs.Common.{Some}
use Rattle.udfs_extraction.proofs.seats.seat_for.Goals as goal

pub returns-in-Some-2-clause-seat : goal.returns-in-Some-2-clause-seat
returns-in-Some-2-clause-seat g c = (Some c.in-Some.name.now, c.in-Some.ensures, rw c.in-Some-2.is at c.in_ok-seat.ensures.word, rw c.in-Some-2.is at c.in_ok-seat.ensures.path)
