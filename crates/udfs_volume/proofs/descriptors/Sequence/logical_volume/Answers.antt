use Rattle.udfs_volume.specs.Layout.{with_identifier}
use Rattle.udfs_volume.specs.Sequences.{sequence_now}
use Rattle.udfs_volume.proofs.Greatest.{best-all}
use Rattle.udfs_volume.proofs.descriptors.Sequence.logical_volume.Goals as goal

pub loop-descriptor-init : goal.loop-descriptor-init
loop-descriptor-init c = best-all (with_identifier 6 (sequence_now c.args.self.now))
