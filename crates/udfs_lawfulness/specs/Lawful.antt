-- A lawful volume has lawful structures.
--     LawfulHasStructures     so it is, by the rules of any profile
--     NoLawfulAgrees          so no lawful volume agrees with a table that contradicts lawful structures
use Rattle.std.specs.Prelude.{ℕ}
use Rattle.udfs_lattice.specs.Volumes.{Agrees, Blocks, Volume}
use Rattle.udfs_volume.specs.declared.profiles.Profile.{Profile}
use Rattle.udfs_salvage.specs.VolumeTrees.{IsLawfulBy}
use Rattle.udfs_lawfulness.specs.Structures.{AgreesWithNoLawful, HasLawfulStructures}

-- a lawful volume has lawful structures
abbrev pub LawfulHasStructures : Type 0
LawfulHasStructures = (profile : Profile) (volume : Volume) (last : ℕ) → IsLawfulBy profile volume last → HasLawfulStructures profile volume last

-- where no volume with lawful structures agrees with a table, no lawful volume does
abbrev pub NoLawfulAgrees : Type 0
NoLawfulAgrees = (profile : Profile) (blocks : Blocks) (last : ℕ) → AgreesWithNoLawful profile blocks last
    → (volume : Volume) → IsLawfulBy profile volume last → ¬ Agrees blocks volume last
