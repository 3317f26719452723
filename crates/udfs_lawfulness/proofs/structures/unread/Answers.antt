use Rattle.std.proofs.Common.{◌++◌, subst, sym}
use Rattle.udfs_volume.specs.Seen.{IsRising}
use Rattle.udfs_volume.proofs.PublicLaws.{ascending_rises}
use Rattle.udfs_lawfulness.proofs.structures.unread.Goals as goal

pub returns-clause-rising : goal.returns-clause-rising
returns-clause-rising g c = subst IsRising (sym c.in_ok-add_rising.ensures) (ascending_rises (c.deref-2.result.now ++ c.new-rising.result.items))
