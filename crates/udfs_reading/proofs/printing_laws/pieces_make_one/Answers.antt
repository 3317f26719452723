use Rattle.udfs_reading.proofs.PrintingPublicLaws.{puts_none, puts_then, puts_all}
use Rattle.udfs_reading.proofs.printing_laws.pieces_make_one.Goals as goal

pub returns : goal.returns
returns c = record { none = puts_none; one_more = puts_then; all = puts_all }
