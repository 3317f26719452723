use Rattle.udfs_lost.proofs.FoundLemmas.{file_next}
use Rattle.udfs_lost.proofs.unplaced_entries.with_files.Goals as goal

pub loop-file-preserved : goal.loop-file-preserved
loop-file-preserved c = file_next c.args.files.now c.loop-file.file-index c.file-item.result c.args.found c.loop-file.found c.in_ok-found.found c.loop-file-test.true c.file-item.is c.loop-file.invariant c.in_ok-found.ensures
