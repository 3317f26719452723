-- Steps of a cursor through a directory.
--     bytes_of view            the bytes of both pieces
--     StepIs told step         the step of the code is this step of the definition
--     HasFirstBytes cells told     a descriptor that was told has the bytes of the first cells
--     IsNext profile before told after     what was next by these rules, and what is left after it
--     IsStep before told after             the same by the strict ones
--     StepsTo before told after   the same of the list of all descriptors and what ends it
use Rattle.std.specs.Prelude.{◌≡◌, ◌≤◌, ℕ, Bool, true, false, List, [], ◌∷◌, ◌++◌, length, drop, map, take, Option, ⊤}
use Rattle.udfs_volume.specs.declared.profiles.Profile.{Profile}
use Rattle.udfs_volume.specs.declared.profiles.Profile.TheVariants.{Strict}
use Rattle.udfs_file.specs.Fronts.{DirectoryText, identifier_in, step_by, value}
use Rattle.udfs_file.specs.Identifiers.{Identifier, Rest, Nothing, Stopped, Wrong, AtRest, One}
use Rattle.udfs_file.specs.Identifiers as identifiers
use Rattle.udfs_file.specs.declared.cells.Cell.{Cell}
use Rattle.udfs_file.specs.declared.directories.DirEntry.{DirEntry}
use Rattle.udfs_file.specs.declared.cursors.Step.{Step}
use Rattle.udfs_file.specs.declared.cursors.Step.TheVariants.{Id, Stop, Fault, End}
use Rattle.udfs_file.specs.declared.pieces.Pieces.{Pieces}

-- the bytes of both pieces
abbrev pub bytes_of : Pieces → List ℕ
bytes_of view = view.first.now ++ view.second.now

-- the bytes are a descriptor
pub record IsDescriptor (bytes : List ℕ) (id : Identifier) : Type 0 where
  pub least : 38 ≤ length bytes
  pub most : length bytes ≤ 2048
  pub size : id.size ≡ length bytes
  pub is : identifier_in (length bytes) bytes ≡ One id

-- the step is a descriptor
abbrev pub is_id : Step → Bool
is_id (Id view) = true
is_id (Stop n) = false
is_id (Fault fault) = false
is_id End = false

-- the step of the code is the one of the definitions
abbrev pub StepIs : Step → identifiers.Step → Type 0
StepIs (Id view) s = (id : Identifier) × IsDescriptor (bytes_of view) id × (s ≡ One id)
StepIs (Stop n) s = s ≡ AtRest (Stopped n)
StepIs (Fault fault) s = s ≡ AtRest (Wrong fault)
StepIs End s = s ≡ AtRest Nothing

-- a descriptor that was told has these bytes
abbrev pub HasBytes : List ℕ → Step → Type 0
HasBytes bytes (Id view) = bytes_of view ≡ bytes
HasBytes bytes (Stop n) = ⊤
HasBytes bytes (Fault fault) = ⊤
HasBytes bytes End = ⊤

-- a descriptor that was told has the bytes of the first cells
abbrev pub HasFirstBytes : List Cell → Step → Type 0
HasFirstBytes cells (Id view) = bytes_of view ≡ map value (take (length (bytes_of view)) cells)
HasFirstBytes cells (Stop n) = ⊤
HasFirstBytes cells (Fault fault) = ⊤
HasFirstBytes cells End = ⊤

-- the cells left after a step: those after the descriptor, or all of them where the directory ends
abbrev pub left_behind : Step → List Cell → List Cell
left_behind (Id view) before = drop (length (bytes_of view)) before
left_behind (Stop n) before = before
left_behind (Fault fault) before = before
left_behind End before = before

-- a cursor returned the step of the cells before, and what is after it is left
pub record IsNext (profile : Profile) (before : List Cell) (told : Step) (after : List Cell) : Type 0 where
  pub is : StepIs told (step_by profile before)
  pub behind : after ≡ left_behind told before

-- the step by the strict rules
abbrev pub IsStep : List Cell → Step → List Cell → Type 0
IsStep before told after = IsNext Strict before told after

-- the first descriptor, and then those that are left; or the rest alone, and it stays so
abbrev pub StepsTo : DirectoryText → Step → DirectoryText → Type 0
StepsTo before (Id view) after = (id : Identifier) × IsDescriptor (bytes_of view) id × (before.identifiers ≡ id ∷ after.identifiers) × (before.rest ≡ after.rest)
StepsTo before (Stop n) after = (before.identifiers ≡ []) × (before.rest ≡ Stopped n) × (after ≡ before)
StepsTo before (Fault fault) after = (before.identifiers ≡ []) × (before.rest ≡ Wrong fault) × (after ≡ before)
StepsTo before End after = (before.identifiers ≡ []) × (before.rest ≡ Nothing) × (after ≡ before)

-- this is the entry of the descriptor in these bytes, if they are one
abbrev pub IsListedIn : List ℕ → Option DirEntry → Type 0
IsListedIn bytes listed = (id : Identifier) → identifier_in (length bytes) bytes ≡ One id → id.listed ≡ listed
