-- The laws of this crate that proofs above it use. Each has the statement that a function of src/laws.rt ensures.
use Rattle.std.proofs.Common.{refl}
use Rattle.udfs_reading.specs.Laws.{PassedNone, PassedThen, FailedThen, FailedMore, FailedLast}
use Rattle.udfs_reading.proofs.WritingLemmas as writing

-- pieces_make_one
pub passed_none : PassedNone
passed_none = writing.passed_none

pub passed_then : PassedThen
passed_then a b c p q r x y h g = writing.passed_then h g

pub failed_then : FailedThen
failed_then a b c p q x y h g = writing.failed_then h g

pub failed_more : FailedMore
failed_more a b p x y h = writing.failed_more y h

pub failed_last : FailedLast
failed_last a b c q x h g = writing.failed_last refl h g
