-- Lost folders, and the roots among them.
--     is_lost_folder view deleted u            an entry without a name is a lost folder
--     lost_folders view deleted entries        those among entries
--     IsLostRoot view folders f                no other of the folders leads to f, or f is the least of those in a ring
--     AreLostRoots view folders roots          all roots, ascending
--     IsRootsRefused view folders error        why they are not returned
use Rattle.std.specs.Prelude.{◌≤◌, ◌<◌, ◌↔◌, ◌||◌, ◌&&◌, ⊤, Bool, true, false, List, map, filter, nat_lt, Contains, AllPairs}
use Rattle.udfs_tag.specs.Fields.{number_of}
use Rattle.udfs_space.specs.Places.{View}
use Rattle.udfs_file.specs.declared.faults.Kind.{Kind}
use Rattle.udfs_file.specs.declared.faults.Kind.TheVariants.{Directory}
use Rattle.udfs_walk.specs.Targets.{Icb, icb_at}
use Rattle.udfs_walk.specs.declared.answers.Unnamed.{Unnamed}
use Rattle.udfs_walk.specs.declared.answers.NodesError.{NodesError}
use Rattle.udfs_walk.specs.declared.answers.NodesError.TheVariants.{TooManyPaths, OutOfMemory}
use Rattle.udfs_lost.specs.Entries.{IsLargeAt}
use Rattle.udfs_lost.specs.Links.{links_at}
use Rattle.udfs_lost.specs.Naming.{IsLedTo, LeadsTo}

-- the information control block of an entry without a name
abbrev pub icb_of_entry : Unnamed → Icb
icb_of_entry u = icb_at u.reference u.block

-- an entry is taken in: one of link count 0 was deleted, and is so only where deleted ones are asked for
abbrev pub is_taken : View → Bool → Unnamed → Bool
is_taken view deleted u = deleted || nat_lt 0 (links_at view (icb_of_entry u))

-- the kind is that of a directory
abbrev pub is_directory : Kind → Bool
is_directory Directory = true
is_directory _ = false

-- an entry without a name is a lost folder: a directory that is taken in
abbrev pub is_lost_folder : View → Bool → Unnamed → Bool
is_lost_folder view deleted u = is_directory u.kind && is_taken view deleted u

-- the lost folders among entries without a name
abbrev pub lost_folders : View → Bool → List Unnamed → List Icb
lost_folders view deleted entries = map icb_of_entry (filter (is_lost_folder view deleted) entries)

-- Whatever folder leads to this one is led to from it, and does not come before it, by partition reference and then by block.
pub record IsLostRoot (view : View) (folders : List Icb) (f : Icb) : Type 0 where
  pub is : Contains folders f
  pub first : (g : Icb) → Contains folders g → LeadsTo view g f → LeadsTo view f g × (number_of f ≤ number_of g)

-- these are the roots among the folders, ascending and each once, and names lead from them to all folders
pub record AreLostRoots (view : View) (folders roots : List Icb) : Type 0 where
  pub each : (f : Icb) → Contains roots f ↔ IsLostRoot view folders f
  pub all : (f : Icb) → Contains folders f → IsLedTo view roots f
  pub ascending : AllPairs (λ f g. number_of f < number_of g) roots

-- a directory to which one of the folders leads lists more entries than a walk may have besides it
pub record HaveLargeDirectory (view : View) (folders : List Icb) : Type 0 where
  pub folder : Icb
  pub is : Contains folders folder
  pub directory : Icb
  pub leads : LeadsTo view folder directory
  pub is_large : IsLargeAt view directory

-- TooManyPaths comes only where there is such a directory; OutOfMemory may always come
abbrev pub IsRootsRefused : View → List Icb → NodesError → Type 0
IsRootsRefused view folders TooManyPaths = HaveLargeDirectory view folders
IsRootsRefused view folders OutOfMemory = ⊤
