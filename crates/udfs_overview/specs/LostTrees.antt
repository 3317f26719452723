-- The lost folders of a volume, as they are shown.
--     AreLost view deleted entries trees      the trees of the lost folders among entries that no name leads to
--     AreLostBy deleted searched trees        the same where they are looked for
--     IsUnfoundBy deleted searched error      why they are not found
--     IsLostOf states deleted survey lost     what is lost of the volume of a survey of a store was found, where these are its states
use Rattle.std.specs.Prelude.{◌≡◌, ◌⊎◌, ⊤, Bool, List, [], Option, Some, None}
use Rattle.udfs_lattice.specs.Volumes.{Blocks}
use Rattle.udfs_space.specs.Places.{View}
use Rattle.udfs_walk.specs.Forests.{HaveMoreRoutes}
use Rattle.udfs_walk.specs.Targets.{Icb}
use Rattle.udfs_walk.specs.declared.answers.NodesError.{NodesError}
use Rattle.udfs_walk.specs.declared.answers.NodesError.TheVariants.{TooManyPaths, OutOfMemory}
use Rattle.udfs_walk.specs.declared.answers.Unnamed.{Unnamed}
use Rattle.udfs_lost.specs.Folders.{AreLostRoots, HaveLargeDirectory, lost_folders}
use Rattle.udfs_lost.specs.LostTrees.{AreLostTrees}
use Rattle.udfs_lost.specs.declared.trees.LostTree.{LostTree}
use Rattle.udfs_salvage.specs.declared.surveys.Survey as code_survey
use Rattle.udfs_overview.specs.Searched.{Searched, searched_now, searched_of}
use Rattle.udfs_overview.specs.declared.lost_found.Lost.{Lost}

-- the trees of the roots of the lost folders among entries
pub record AreLost (view : View) (deleted : Bool) (entries : List Unnamed) (trees : List LostTree) : Type 0 where
  pub roots : List Icb
  pub are_roots : AreLostRoots view (lost_folders view deleted entries) roots
  pub are_trees : AreLostTrees view roots trees

-- where they are looked for; and else there are none
abbrev pub AreLostBy : Bool → Option Searched → List LostTree → Type 0
AreLostBy deleted None trees = trees ≡ []
AreLostBy deleted (Some s) trees = AreLost s.view deleted s.entries trees

-- more than 65,536 routes lead from the roots to nodes, all of them together
pub record HaveLargeTrees (view : View) (folders : List Icb) : Type 0 where
  pub roots : List Icb
  pub are_roots : AreLostRoots view folders roots
  pub more : HaveMoreRoutes view roots 65536

-- TooManyPaths comes only where the lost folders have that many, or lead to a directory that lists more; OutOfMemory may always come
abbrev pub IsUnfound : View → List Icb → NodesError → Type 0
IsUnfound view folders TooManyPaths = HaveLargeDirectory view folders ⊎ HaveLargeTrees view folders
IsUnfound view folders OutOfMemory = ⊤

-- the same where they are looked for; and else memory ran out
abbrev pub IsUnfoundBy : Bool → Option Searched → NodesError → Type 0
IsUnfoundBy deleted None error = error ≡ OutOfMemory
IsUnfoundBy deleted (Some s) error = IsUnfound s.view (lost_folders s.view deleted s.entries) error

-- these are the trees of the lost folders of a survey's volume, looked for where that is to be
pub record IsLostOf {B : Type 0} (states : B → Blocks) (deleted : Bool) (s : code_survey.Survey B) (lost : Lost) : Type 0 where
  pub place : searched_now states s lost ≡ searched_of states s
  pub trees : AreLostBy deleted (searched_of states s) lost.trees.items
