-- What holds of what is known of a disc holds of the volume.
use Rattle.std.proofs.Common.{ℕ, subst}
use Rattle.udfs_lattice.specs.Tables.{Table}
use Rattle.udfs_words.specs.declared.request.VolumeSource.{VolumeSource}
use Rattle.udfs_common.specs.Reach.{Reach}
use Rattle.udfs_common.specs.Volumes.{IsDisc, OfVolume}
use Rattle.udfs_common.specs.declared.volumes.Disc.{Disc}

pub of_disc : {F I M S W : Type 0} {reach : Reach F I M S W} {at : F} {volume : VolumeSource} {disc : Disc} (Holds : ℕ → Table → Type 0) → IsDisc reach at volume disc → Holds disc.last disc.table → OfVolume reach at volume Holds
of_disc {disc = disc} Holds is holds = record { last = disc.last; ends = is.ends; one_disc = is.one_disc; join = (is.join.0, is.join.1, subst (λ (table : Table). Holds disc.last table) is.join.2 holds) }
