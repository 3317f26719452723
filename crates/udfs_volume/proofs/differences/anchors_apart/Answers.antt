use Rattle.std.proofs.Common.{◌≡◌, ◌∙◌}
use Rattle.udfs_lattice.specs.Tables.{state_of}
use Rattle.udfs_volume.specs.Differences.{anchors_apart}
use Rattle.udfs_volume.proofs.ApartAnchors.{anchors_agree}
use Rattle.udfs_volume.proofs.differences.anchors_apart.Goals as goal

pub returns-clause-not_lawful : goal.returns-clause-not_lawful
returns-clause-not_lawful c =
    let t = state_of c.args.table.now in
    let is : c.in-Ok.apart ≡ anchors_apart t c.args.last = c.in-Ok.ensures.value tt in
    λ some profile volume is_volume lawful agrees. some (is ∙ anchors_agree profile t volume c.args.last lawful agrees)
