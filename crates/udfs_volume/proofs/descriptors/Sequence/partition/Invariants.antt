use Rattle.std.proofs.Common.{◌≡◌, drop, map, filter, nat_eq}
use Rattle.std.specs.Prelude.{option_map}
use Rattle.udfs_volume.specs.Layout.{partition, with_identifier, partition_number}
use Rattle.udfs_volume.specs.Prevailing.{best_of}
use Rattle.udfs_volume.specs.Sequences.{descriptor_now, lent_now, sequence_now}
use Rattle.udfs_volume.proofs.descriptors.Sequence.partition.Given as goal

abbrev pub invariant-loop-descriptor : goal.invariant-loop-descriptor
invariant-loop-descriptor l = best_of (option_map lent_now l.best) (filter (λ d. nat_eq (partition_number d) l.number) (with_identifier 5 (map descriptor_now (drop l.descriptor-index l.self.descriptors.items)))) ≡ partition l.number (sequence_now l.self)
