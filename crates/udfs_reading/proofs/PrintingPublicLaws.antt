-- The laws of this crate that proofs above it use. Each has the statement that a function of src/laws.rt ensures.
use Rattle.udfs_reading.specs.PrintingLaws.{PutsNone, PutsThen, PutsAll}
use Rattle.udfs_reading.proofs.Putting as putting
-- what follows of them, of texts one behind the other
pub use Rattle.udfs_reading.proofs.Putting.{puts_as, puts_two, puts_three, puts_four, puts_five, puts_piece}

-- pieces_make_one
pub puts_none : PutsNone
puts_none = putting.puts_none

pub puts_then : PutsThen
puts_then = putting.puts_then

pub puts_all : PutsAll
puts_all = putting.puts_all
