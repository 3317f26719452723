use Rattle.udfs_volume.specs.Sequences.{sequence_now}
use Rattle.udfs_volume.proofs.Told.{got_bounded_of}
use Rattle.udfs_volume.proofs.layouts.see_by.Goals as goal

pub returns-in-Got-clause-bounded : goal.returns-in-Got-clause-bounded
returns-in-Got-clause-bounded c = got_bounded_of c.args.profile c.args.last (sequence_now c.in-Got.sequence) c.see_layout.result c.see_layout.ensures
