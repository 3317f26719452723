-- What is found in a list of nodes. No public contract cites these definitions.
--     ArePathsApart nodes      no two nodes have one path; IsTwice nodes at: an earlier one has the path of this one
--     BeginsWith path front    the first names of the path are those of the front; IsInside path folder: it is the folder's path and one name more
--     AreFolders nodes folders     each node but the root has its folder, an earlier node (`IsFolder`)
--     AreFaultless nodes       no node is a loop or has a fault; IsFaultyAt nodes at: this one is or has
use Rattle.std.specs.Prelude.{◌≡◌, ℕ, ◌<◌, Bool, true, false, List, [], ◌∷◌, ◌++◌, length, Some, slice_get, slice_index}
use Rattle.udfs_walk.specs.NodeFields.{NodeFields}
use Rattle.udfs_walk.specs.declared.standings.Standing.{Standing}
use Rattle.udfs_walk.specs.declared.standings.Standing.TheVariants as standing
use Rattle.udfs_lawfulness.specs.declared.answers.Why.{Why}
use Rattle.udfs_lawfulness.specs.declared.answers.Why.TheVariants.{Structures, Volume as Unopened, TooManyPaths, Fault, Loop, SameName}

-- no two nodes have one path
abbrev pub ArePathsApart : List NodeFields → Type 0
ArePathsApart nodes = (i j : ℕ) (m n : NodeFields) → slice_get nodes i ≡ Some m → slice_get nodes j ≡ Some n → m.path ≡ n.path → i ≡ j

-- an earlier node has the path of this one
pub record IsTwice (nodes : List NodeFields) (at : ℕ) : Type 0 where
  pub inside : at < length nodes
  pub first : ℕ
  pub before : first < at
  pub one : NodeFields
  pub other : NodeFields
  pub one_is : slice_get nodes first ≡ Some one
  pub other_is : slice_get nodes at ≡ Some other
  pub same : one.path ≡ other.path

-- the first names of the path are those of the front
abbrev pub BeginsWith : List (List ℕ) → List (List ℕ) → Type 0
BeginsWith path front = (i : ℕ) → i < length front → slice_get path i ≡ slice_get front i

-- it is the folder's path and one name more
abbrev pub IsInside : List (List ℕ) → List (List ℕ) → Type 0
IsInside path folder = (name : List ℕ) × (path ≡ folder ++ name ∷ [])

-- the path of this node is that of an earlier one, its folder, and one name more
pub record IsFolder (nodes : List NodeFields) (at folder : ℕ) : Type 0 where
  pub before : folder < at
  pub one : NodeFields
  pub other : NodeFields
  pub one_is : slice_get nodes folder ≡ Some one
  pub other_is : slice_get nodes at ≡ Some other
  pub inside : IsInside other.path one.path

-- the first node is the root, and each other one has its folder
pub record AreFolders (nodes : List NodeFields) (folders : List ℕ) : Type 0 where
  pub long : length folders ≡ length nodes
  pub root : (n : NodeFields) → slice_get nodes 0 ≡ Some n → n.path ≡ []
  pub each : (at : ℕ) → 0 < at → at < length nodes → IsFolder nodes at (slice_index folders at)

-- whether it is a loop or has a fault
abbrev pub is_faulty : Standing → Bool
is_faulty standing.Whole = false
is_faulty (standing.Torn torn) = false
is_faulty standing.Loop = true
is_faulty (standing.Fault fault) = true

-- no node is or has
abbrev pub AreFaultless : List NodeFields → Type 0
AreFaultless nodes = (i : ℕ) (n : NodeFields) → slice_get nodes i ≡ Some n → is_faulty n.standing ≡ false

-- this one is or has
pub record IsFaultyAt (nodes : List NodeFields) (at : ℕ) : Type 0 where
  pub inside : at < length nodes
  pub node : NodeFields
  pub node_is : slice_get nodes at ≡ Some node
  pub faulty : is_faulty node.standing ≡ true

-- the node is wrong for this reason
abbrev pub IsFaultyFor : NodeFields → Why → Type 0
IsFaultyFor n (Structures reason) = ⊥
IsFaultyFor n (Unopened fault) = ⊥
IsFaultyFor n TooManyPaths = ⊥
IsFaultyFor n (Fault path fault) = (n.path ≡ path) × (n.standing ≡ standing.Fault fault)
IsFaultyFor n (Loop path) = (n.path ≡ path) × (n.standing ≡ standing.Loop)
IsFaultyFor n (SameName path) = ⊥
