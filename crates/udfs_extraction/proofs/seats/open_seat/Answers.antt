use Rattle.udfs_extraction.proofs.seats.open_seat.Goals as goal

pub returns-then-branch-clause-word : goal.returns-then-branch-clause-word
returns-then-branch-clause-word g c = c.in_ok-seat.ensures.word

pub returns-then-branch-clause-path : goal.returns-then-branch-clause-path
returns-then-branch-clause-path g c = c.in_ok-seat.ensures.path
