-- The masks of the states from `place` on.
use Rattle.std.proofs.Common.{◌≡◌, ◌+◌, ◌-◌, ◌≤◌}
use Rattle.udfs_lattice.specs.States.{is_known, is_conflict}
use Rattle.udfs_reading.specs.PacketFile.{mask_of, states_from}
use Rattle.udfs_reading.proofs.packing.masks_of.Given as goal

abbrev pub invariant-loop-place : goal.invariant-loop-place
invariant-loop-place l =
    record {
      within : l.place ≤ 32;
      known : l.masks.known ≡ mask_of is_known (states_from l.table (l.first + l.place) (32 - l.place));
      conflict : l.masks.conflict ≡ mask_of is_conflict (states_from l.table (l.first + l.place) (32 - l.place));
    }

abbrev pub decreases-loop-place : goal.decreases-loop-place
decreases-loop-place l = l.place
