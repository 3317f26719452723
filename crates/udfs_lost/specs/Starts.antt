-- The search for roots.
--     AreRising folders                  they ascend, and may repeat
--     IsExploreRefused view icb error    why what one leads to was not explored
--     AreStarts view folders starts      the folders to which none before them leads
use Rattle.std.specs.Prelude.{◌≤◌, ◌<◌, ⊤, List, Contains, AllPairs}
use Rattle.udfs_tag.specs.Fields.{number_of}
use Rattle.udfs_space.specs.Places.{View}
use Rattle.udfs_walk.specs.Targets.{Icb}
use Rattle.udfs_walk.specs.declared.answers.NodesError.{NodesError}
use Rattle.udfs_walk.specs.declared.answers.NodesError.TheVariants.{TooManyPaths, OutOfMemory}
use Rattle.udfs_lost.specs.Entries.{IsLargeAt}
use Rattle.udfs_lost.specs.Naming.{IsLedTo, LeadsTo}

-- the folders ascend by their numbers, and may repeat
abbrev pub AreRising : List Icb → Type 0
AreRising folders = AllPairs (λ f g. number_of f ≤ number_of g) folders

-- TooManyPaths comes only where it leads to a directory with too many entries; OutOfMemory may always come
abbrev pub IsExploreRefused : View → Icb → NodesError → Type 0
IsExploreRefused view icb TooManyPaths = (directory : Icb) × LeadsTo view icb directory × IsLargeAt view directory
IsExploreRefused view icb OutOfMemory = ⊤

-- those of the folders to which no folder before them leads; they lead to all
pub record AreStarts (view : View) (folders starts : List Icb) : Type 0 where
  pub near : (f : Icb) → Contains folders f → f.block < 4294967296
  pub among : (s : Icb) → Contains starts s → Contains folders s
  pub cover : (f : Icb) → Contains folders f → IsLedTo view starts f
  pub first : (s g : Icb) → Contains starts s → Contains folders g → number_of g < number_of s → ¬ LeadsTo view g s
  pub ascending : AllPairs (λ f g. number_of f < number_of g) starts
