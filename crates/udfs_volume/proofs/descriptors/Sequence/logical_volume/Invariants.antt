use Rattle.std.proofs.Common.{◌≡◌, drop, map}
use Rattle.std.specs.Prelude.{option_map}
use Rattle.udfs_volume.specs.Layout.{logical_volume, with_identifier}
use Rattle.udfs_volume.specs.Prevailing.{best_of}
use Rattle.udfs_volume.specs.Sequences.{descriptor_now, lent_now, sequence_now}
use Rattle.udfs_volume.proofs.descriptors.Sequence.logical_volume.Given as goal

abbrev pub invariant-loop-descriptor : goal.invariant-loop-descriptor
invariant-loop-descriptor l = best_of (option_map lent_now l.best) (with_identifier 6 (map descriptor_now (drop l.descriptor-index l.self.descriptors.items))) ≡ logical_volume (sequence_now l.self)
