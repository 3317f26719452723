use Rattle.udfs_reading.proofs.PublicLaws.{passed_none, passed_then, failed_then, failed_more, failed_last}
use Rattle.udfs_reading.proofs.laws.pieces_make_one.Goals as goal

pub returns : goal.returns
returns c = record { none = passed_none; one_more = passed_then; fails = failed_then; fails_before_more = failed_more; fails_last = failed_last }
