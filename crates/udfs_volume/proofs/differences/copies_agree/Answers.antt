use Rattle.udfs_volume.proofs.ApartCopies.{copies_agree as law}
use Rattle.udfs_volume.proofs.differences.copies_agree.Goals as goal

pub returns : goal.returns
returns f = law
