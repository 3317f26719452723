use Rattle.udfs_volume.proofs.ApartAnchors.{anchors_agree as law}
use Rattle.udfs_volume.proofs.differences.anchors_agree.Goals as goal

pub returns : goal.returns
returns f = law
