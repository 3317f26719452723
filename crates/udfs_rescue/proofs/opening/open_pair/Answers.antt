use Rattle.udfs_rescue.proofs.PairLemmas.{reading_kept}
use Rattle.udfs_rescue.proofs.PairTables.{pair_table}
use Rattle.udfs_rescue.proofs.opening.open_pair.Goals as goal

pub returns-in-Ok-new-clause-reading : goal.returns-in-Ok-new-clause-reading
returns-in-Ok-new-clause-reading g c =
    record {
      ranges = _;
      known = c.in-Ok.ensures.known;
      inside = c.in-Ok-check_end.ensures.inside;
      bytes = reading_kept _ _ _ _ c.check_end.ensures.same c.in-Ok-new.ensures.bytes;
    }

pub returns-in-Err-clause-fails : goal.returns-in-Err-clause-fails
returns-in-Err-clause-fails g c = c.in-Err.ensures.fails _

pub returns-in-Ok-new-clause-table : goal.returns-in-Ok-new-clause-table
returns-in-Ok-new-clause-table g c =
    pair_table
    (record {
      ranges = _;
      known = c.in-Ok.ensures.known;
      inside = c.in-Ok-check_end.ensures.inside;
      bytes = reading_kept _ _ _ _ c.check_end.ensures.same c.in-Ok-new.ensures.bytes;
    })
