-- Whether a volume is lawful, by what is known of its blocks.
--     IsWhy profile blocks last why          what is known contradicts it, for this reason
--     AreAllLawfulBy profile blocks last     each volume that agrees is lawful
--     IsDecided profile blocks last answer   what an answer says
use Rattle.std.specs.Prelude.{◌≡◌, ◌≢◌, ℕ, ◌<◌, List, [], ◌++◌, Some, slice_get}
use Rattle.udfs_lattice.specs.Volumes.{Agrees, Blocks, IsVolume, Volume, ascending, not_known}
use Rattle.udfs_volume.specs.Answers.{found, holes, faulty}
use Rattle.udfs_volume.specs.declared.profiles.Profile.{Profile}
use Rattle.udfs_space.specs.Places.{View, view}
use Rattle.udfs_walk.specs.NodeFields.{NodeFields}
use Rattle.udfs_walk.specs.Walks.{AreNodes}
use Rattle.udfs_walk.specs.declared.standings.Standing.{Standing}
use Rattle.udfs_walk.specs.declared.standings.Standing.TheVariants as standing
use Rattle.udfs_salvage.specs.Found.{Found, volume_by}
use Rattle.udfs_salvage.specs.Reports.{HasTooManyPathsBy}
use Rattle.udfs_salvage.specs.TreeReports.{AgreesWithNoneBy}
use Rattle.udfs_salvage.specs.VolumeTrees.{IsLawfulBy}
use Rattle.udfs_lawfulness.specs.Asking.{tree_asked}
use Rattle.udfs_lawfulness.specs.Structures.{IsReason, asked}
use Rattle.udfs_lawfulness.specs.declared.answers.Why.{Why}
use Rattle.udfs_lawfulness.specs.declared.answers.Why.TheVariants.{Structures, Volume as Unopened, TooManyPaths, Fault, Loop, SameName}
use Rattle.udfs_lawfulness.specs.declared.answers.Lawfulness.{Lawfulness}
use Rattle.udfs_lawfulness.specs.declared.answers.Lawfulness.TheVariants.{Lawful, Unlawful, Open}

-- ---- what contradicts it
-- the volume opens, and this holds of its nodes
pub record HasNodes (profile : Profile) (blocks : Blocks) (last : ℕ) (Holds : View → List NodeFields → Type 0) : Type 0 where
  pub opened : Found
  pub opens : volume_by profile blocks last ≡ found opened
  pub nodes : List NodeFields
  pub nodes_are : AreNodes (view blocks opened.space) opened.root nodes
  pub holds : Holds (view blocks opened.space) nodes

-- a node at this path has this standing
abbrev pub HasStanding : List (List ℕ) → Standing → List NodeFields → Type 0
HasStanding path s nodes = (i : ℕ) × (n : NodeFields) × (slice_get nodes i ≡ Some n) × (n.path ≡ path) × (n.standing ≡ s)

-- two nodes are at this path
abbrev pub AreTwoAt : List (List ℕ) → List NodeFields → Type 0
AreTwoAt path nodes = (i j : ℕ) × (m n : NodeFields) × (i < j) × (slice_get nodes i ≡ Some m) × (slice_get nodes j ≡ Some n) × (m.path ≡ path) × (n.path ≡ path)

-- what is known contradicts it for this reason
abbrev pub IsWhy : Profile → Blocks → ℕ → Why → Type 0
IsWhy profile blocks last (Structures reason) = IsReason profile blocks last reason
IsWhy profile blocks last (Unopened fault) = volume_by profile blocks last ≡ faulty fault
IsWhy profile blocks last TooManyPaths = HasTooManyPathsBy profile blocks last
IsWhy profile blocks last (Fault path fault) = HasNodes profile blocks last (λ v. HasStanding path (standing.Fault fault))
IsWhy profile blocks last (Loop path) = HasNodes profile blocks last (λ v. HasStanding path standing.Loop)
IsWhy profile blocks last (SameName path) = HasNodes profile blocks last (λ v. AreTwoAt path)

-- ---- the blocks that decide it
-- those that the volume has to be opened by, or where it opens those of its tree
pub data AskedBelow (profile : Profile) (blocks : Blocks) (last : ℕ) (listed : List ℕ) : Type 0 where
  to_open : volume_by profile blocks last ≡ holes listed → AskedBelow profile blocks last listed
  of_tree : HasNodes profile blocks last (λ v nodes. listed ≡ tree_asked v nodes) → AskedBelow profile blocks last listed

-- ---- what an answer says
-- each volume that agrees is lawful
abbrev pub AreAllLawfulBy : Profile → Blocks → ℕ → Type 0
AreAllLawfulBy profile blocks last = (volume : Volume) → IsVolume volume last → Agrees blocks volume last → IsLawfulBy profile volume last

-- there is this reason, and no volume that agrees is lawful
pub record IsRefuted (profile : Profile) (blocks : Blocks) (last : ℕ) (why : Why) : Type 0 where
  pub reason : IsWhy profile blocks last why
  pub none : AgreesWithNoneBy profile blocks last

-- these are the blocks that decide it and are not known, one at least, and nothing that is known contradicts it
pub record IsLeftOpen (profile : Profile) (blocks : Blocks) (last : ℕ) (listed : List ℕ) : Type 0 where
  pub below : List ℕ
  pub below_are : AskedBelow profile blocks last below
  pub listed_are : listed ≡ ascending (below ++ ascending (not_known blocks (asked profile blocks last)))
  pub some : listed ≢ []
  pub no_why : (why : Why) → ¬ IsWhy profile blocks last why

-- an answer is true of each volume that agrees; where each block that is asked for is known, it is one of the first two
abbrev pub IsDecided : Profile → Blocks → ℕ → Lawfulness → Type 0
IsDecided profile blocks last Lawful = AreAllLawfulBy profile blocks last
IsDecided profile blocks last (Unlawful why) = IsRefuted profile blocks last why
IsDecided profile blocks last (Open listed) = IsLeftOpen profile blocks last listed.items
