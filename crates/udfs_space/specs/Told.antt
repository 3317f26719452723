-- What a call reports of a lawful volume of which a part is known.
--     IsSpaceOf volume last blocks l got    the volume's places, as the standard reads them
--     ArePlacesUpTo last space              each place is at most the last block
--     TellsLawfulSpace blocks l seen             of each lawful volume: its places, or all copies of an unread block
use Rattle.std.specs.Prelude.{◌≡◌, ◌≤◌, ⊤, ℕ, List, [], Some, Contains}
use Rattle.udfs_lattice.specs.Volumes.{Blocks, Volume, IsVolume, Agrees, complete, IsKnownAt}
use Rattle.udfs_volume.specs.declared.seen.Seen.{Seen}
use Rattle.udfs_volume.specs.declared.seen.Seen.TheVariants.{Got, Holes, Fault, OutOfMemory}
use Rattle.udfs_volume.specs.declared.profiles.Profile.{Profile}
use Rattle.udfs_volume.specs.Answers.{found}
use Rattle.udfs_volume.specs.Layout.{Layout, layout_by}
use Rattle.udfs_volume.specs.Laws.{ListsGroup}
use Rattle.udfs_space.specs.Laws.{IsLawfulSparing, IsSparingGroup}
use Rattle.udfs_space.specs.Places.{IsPartOf, place, view}
use Rattle.udfs_space.specs.Sparing.{Space, space}
use Rattle.udfs_space.specs.Standard.{standard_space}
use Rattle.udfs_space.specs.declared.spaces.Space as code_space

-- the places of the volume, which the standard reads from the first sparing table; of each block of a table a
-- copy is known; and each placed block is the volume's or not known
pub record IsSpaceOf (volume : Volume) (last : ℕ) (blocks : Blocks) (l : Layout) (got : Space) : Type 0 where
  pub whole : space (complete volume last) l ≡ found got
  pub standard : standard_space volume l ≡ got
  pub known : (group : List ℕ) → IsSparingGroup l.partitions group → (n : ℕ) × Contains group n × IsKnownAt blocks n
  pub part : IsPartOf (view blocks got) (view (complete volume last) got)

-- what a call returned is the volume's places, or the listed blocks hold a group of which none is known; no fault is reported, and memory may run out
abbrev pub IsSpaceTold : Volume → ℕ → Blocks → Layout → Seen code_space.Space → Type 0
IsSpaceTold volume last blocks l (Got got) = IsSpaceOf volume last blocks l got
IsSpaceTold volume last blocks l (Holes listed) = ListsGroup blocks [] [] (IsSparingGroup l.partitions) listed.items
IsSpaceTold volume last blocks l (Fault fault) = ⊥
IsSpaceTold volume last blocks l OutOfMemory = ⊤

-- for each volume that is lawful by the rules of a profile and agrees with the table, the result is true of it, as `IsSpaceTold` says
abbrev pub TellsLawfulSpace : Blocks → Layout → Seen code_space.Space → Type 0
TellsLawfulSpace blocks l seen = (profile : Profile) (volume : Volume) (last : ℕ) → IsVolume volume last → layout_by profile (complete volume last) last ≡ found l
    → IsLawfulSparing volume last l → Agrees blocks volume last → IsSpaceTold volume last blocks l seen

-- each place is a block of the volume
abbrev pub ArePlacesUpTo : ℕ → Space → Type 0
ArePlacesUpTo last space = (reference b n : ℕ) → place space reference b ≡ Some n → n ≤ last
