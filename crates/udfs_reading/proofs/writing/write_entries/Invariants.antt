-- The entries before those that are left were taken.
use Rattle.udfs_lattice.specs.Tables.{entries_of}
use Rattle.udfs_reading.proofs.WritingLemmas.{Written}
use Rattle.udfs_reading.proofs.writing.write_entries.Given as goal

abbrev pub invariant-loop-block : goal.invariant-loop-block
invariant-loop-block g l =
    let W = g.W.Sink in
    Written (W.stream l.initial.sink) (W.stream l.sink) l.initial.out l.out (entries_of l.table) l.block-iterator
