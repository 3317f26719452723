use Rattle.std.proofs.Common.{inl, refl}
use Rattle.udfs_extraction.proofs.making.search_lost.Goals as goal

pub returns-in-Err-OutOfMemory-clause-refused : goal.returns-in-Err-OutOfMemory-clause-refused
returns-in-Err-OutOfMemory-clause-refused g c known = inl refl

pub returns-in-Err-OutOfMemory-standing_in-clause-refused : goal.returns-in-Err-OutOfMemory-standing_in-clause-refused
returns-in-Err-OutOfMemory-standing_in-clause-refused g c known = inl refl
