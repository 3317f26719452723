use Rattle.std.proofs.Common.{inl, inr}
use Rattle.udfs_common.proofs.volumes.joined_volume.Goals as goal

pub returns-in-Err-clause-refused : goal.returns-in-Err-clause-refused
returns-in-Err-clause-refused g c = (inl (rw c.as_slice-paths.ensures.value at c.in-Err.ensures.blamed), c.in-Err.ensures.forced)

pub returns-in-Ok-joined-clause-joined : goal.returns-in-Ok-joined-clause-joined
returns-in-Ok-joined-clause-joined g c =
    let value = c.as_slice-paths.ensures.value in
    record { ends = rw value at c.in-Ok.ensures.ends; one_disc = rw value at c.in-Ok-joined.ensures.one_disc; join = rw value at c.in-Ok-joined.ensures.by_path }

pub returns-in-Err-joined-clause-refused : goal.returns-in-Err-joined-clause-refused
returns-in-Err-joined-clause-refused g c = (inr (rw c.as_slice-paths.ensures.value at c.in-Err-joined.ensures.blamed), c.in-Err-joined.ensures.forced)
