-- What is known of a table whose known blocks contradict nothing. No public contract cites these definitions.
--     EndInside blocks last        the extents of the anchor that is found end where blocks may end
--     IsClear profile blocks last  no known block contradicts lawful structures
use Rattle.std.specs.Prelude.{◌≡◌, ℕ, ◌+◌, ◌/◌, ◌≤◌, false, None}
use Rattle.udfs_lattice.specs.Volumes.{Blocks}
use Rattle.udfs_volume.specs.Answers.{found}
use Rattle.udfs_volume.specs.Differences.{anchors_apart, copies_differ}
use Rattle.udfs_volume.specs.Layout.{Layout, layout_by}
use Rattle.udfs_volume.specs.Sequence.{anchor, shorter}
use Rattle.udfs_volume.specs.declared.anchors.AnchorExtents.{AnchorExtents}
use Rattle.udfs_volume.specs.declared.faults.VolumeFault.{VolumeFault}
use Rattle.udfs_volume.specs.declared.profiles.Profile.{Profile}
use Rattle.udfs_lawfulness.specs.Searching.{partitions_reason}
use Rattle.udfs_lawfulness.specs.Structures.{HasFault}

-- both extents, as far as the shorter one goes
abbrev pub EndInside : Blocks → ℕ → Type 0
EndInside blocks last = (e : AnchorExtents) → anchor blocks last ≡ found e
    → (e.main.block + shorter e / 2048 ≤ 4194304) × (e.reserve.block + shorter e / 2048 ≤ 4194304)

-- anchors are not apart, copies do not differ, and there is no fault
pub record IsClear (profile : Profile) (blocks : Blocks) (last : ℕ) : Type 0 where
  pub anchors : anchors_apart blocks last ≡ None
  pub copies : copies_differ profile blocks last ≡ false
  pub maps : (l : Layout) → layout_by profile blocks last ≡ found l → partitions_reason blocks l.partitions ≡ None
  pub no_fault : (fault : VolumeFault) → ¬ HasFault profile blocks last fault
