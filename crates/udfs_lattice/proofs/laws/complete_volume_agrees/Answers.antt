use Rattle.udfs_lattice.proofs.PublicLaws.{complete_agrees, complete_knows}
use Rattle.udfs_lattice.proofs.VolumeLaws.{known_or_disputed}
use Rattle.udfs_lattice.proofs.laws.complete_volume_agrees.Goals as goal

pub returns : goal.returns
returns c = record { complete = complete_agrees; knows = complete_knows; above = known_or_disputed }
