-- What a call reports of a lawful volume of which a part is known.
--     IsLayoutOf profile volume blocks last got     the volume's layout, as the standard reads it
--     TellsLawfulLayoutBy profile blocks last seen  of each lawful volume: its layout, or all of an unread group
--     TellsLawfulLayout blocks last seen            the same by the strict rules
use Rattle.std.specs.Prelude.{◌≡◌, ⊤, ℕ, List, Some, Contains}
use Rattle.udfs_lattice.specs.Volumes.{Blocks, Volume, IsVolume, Agrees, complete, IsKnownAt}
use Rattle.udfs_volume.specs.declared.layouts.VolumeParts.{VolumeParts}
use Rattle.udfs_volume.specs.declared.profiles.Profile.{Profile}
use Rattle.udfs_volume.specs.declared.profiles.Profile.TheVariants.{Strict}
use Rattle.udfs_volume.specs.declared.seen.Seen.{Seen}
use Rattle.udfs_volume.specs.declared.seen.Seen.TheVariants.{Got, Holes, Fault, OutOfMemory}
use Rattle.udfs_volume.specs.Answers.{found}
use Rattle.udfs_volume.specs.Sequence.{anchor_places}
use Rattle.udfs_volume.specs.Layout.{Layout, layout_by}
use Rattle.udfs_volume.specs.LayoutParts.{parts_now}
use Rattle.udfs_volume.specs.Standard.{standard_anchor, standard_layout_by}
use Rattle.udfs_volume.specs.Laws.{IsLawfulLayoutBy, IsSequenceGroup, ListsGroup, valid_anchors}

-- the layout of the volume, which the standard reads by its first anchor; and each group has a known block
pub record IsLayoutOf (profile : Profile) (volume : Volume) (blocks : Blocks) (last : ℕ) (got : Layout) : Type 0 where
  pub whole : layout_by profile (complete volume last) last ≡ found got
  pub standard : (n : ℕ) × (standard_anchor volume last ≡ Some n) × (standard_layout_by profile volume last n ≡ found got)
  pub known : (group : List ℕ) → IsSequenceGroup volume last group → (n : ℕ) × Contains group n × IsKnownAt blocks n

-- what a call returned is the volume's layout, or the listed blocks hold a group of which none is known; no fault is reported, and memory may run out
abbrev pub IsLayoutTold : Profile → Volume → Blocks → ℕ → Seen VolumeParts → Type 0
IsLayoutTold profile volume blocks last (Got parts) = IsLayoutOf profile volume blocks last (parts_now parts)
IsLayoutTold profile volume blocks last (Holes listed) =
    ListsGroup blocks (valid_anchors volume last) (anchor_places last) (IsSequenceGroup volume last) listed.items
IsLayoutTold profile volume blocks last (Fault fault) = ⊥
IsLayoutTold profile volume blocks last OutOfMemory = ⊤

-- for each lawful volume that agrees with the table, the result is true of it, as `IsLayoutTold` says
abbrev pub TellsLawfulLayoutBy : Profile → Blocks → ℕ → Seen VolumeParts → Type 0
TellsLawfulLayoutBy profile blocks last seen = (volume : Volume) → IsVolume volume last → IsLawfulLayoutBy profile volume last → Agrees blocks volume last
    → IsLayoutTold profile volume blocks last seen

-- the same by the strict rules
abbrev pub TellsLawfulLayout : Blocks → ℕ → Seen VolumeParts → Type 0
TellsLawfulLayout = TellsLawfulLayoutBy Strict
