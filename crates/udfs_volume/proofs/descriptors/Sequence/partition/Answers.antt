use Rattle.std.proofs.Common.{filter, nat_eq}
use Rattle.udfs_volume.specs.Layout.{with_identifier, partition_number}
use Rattle.udfs_volume.specs.Sequences.{sequence_now}
use Rattle.udfs_volume.proofs.Greatest.{best-all}
use Rattle.udfs_volume.proofs.descriptors.Sequence.partition.Goals as goal

pub loop-descriptor-init : goal.loop-descriptor-init
loop-descriptor-init c = best-all (filter (λ d. nat_eq (partition_number d) c.args.number) (with_identifier 5 (sequence_now c.args.self.now)))
