use Rattle.std.proofs.Common.{◌≡◌, ◌-◌, ◌/◌, map}
use Rattle.std.specs.List.{range_with_len}
use Rattle.udfs_volume.specs.Sequence.{read_positions, positions}
use Rattle.udfs_volume.specs.Sequences.{descriptor_now}
use Rattle.udfs_volume.proofs.Walking.{after, row}
use Rattle.udfs_volume.proofs.sequences.read_positions.Given as goal

abbrev pub invariant-loop-i : goal.invariant-loop-i
invariant-loop-i g l = g.B.BlockStore.tells → after (map descriptor_now l.descriptors.items) (read_positions (map (row (g.B.BlockStore.states l.blocks) l.extents) (range_with_len l.i (l.extents.main.length / 2048 - l.i)))) ≡ read_positions (positions (g.B.BlockStore.states l.blocks) l.extents)
