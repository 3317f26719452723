-- Where `extract --lost` writes what is lost: by the number of its information control block, or by a name that was found for it behind a hole of a torn folder. Such a
-- name is evidence and no proof: what is written by it is below `by-name`, and its lines have `found:` before the path.
--     FoundAt                            a name that is found: what it names, and where
--     found_at tree n f                  that of an entry which is found in this torn folder of the volume, or of a lost tree
--     IsFoundAmong view us tree nodes p  it is that of one of these entries, found in a torn folder among these nodes
--     IsFoundIn view us nodes trees p    the same of the nodes of a volume, or of a lost tree
--     IsSeat names icb seat              a place of what has this information control block: its number, or one of these names for it
--     seat_word two icb seat             what stands before the paths of a tree in what is printed
--     seat_path folder two icb seat      the path of its first node
use Rattle.std.specs.Prelude.{◌≡◌, ◌⊎◌, ⊤, ℕ, Bool, List, [], Contains, ◌∷◌, ◌++◌, Option, Some, None, codes}
use Rattle.udfs_space.specs.Places.{View}
use Rattle.udfs_walk.specs.NodeFields.{NodeFields}
use Rattle.udfs_walk.specs.Targets.{Icb}
use Rattle.udfs_walk.specs.declared.answers.Unnamed.{Unnamed}
use Rattle.udfs_lost.specs.Folders.{icb_of_entry}
use Rattle.udfs_lost.specs.FoundNames.{Found, found_names, torn_folders}
use Rattle.udfs_lost.specs.declared.trees.LostTree.{LostTree}
use Rattle.udfs_salvage.specs.NodeTexts.{names_text}
use Rattle.udfs_extraction.specs.ShortNames.{icb_number}

-- ---- names that are found

-- what is named; the folder of the lost tree in which the torn folder is, where that is no node of the volume; the path of the torn folder, and the name, each in its escaped form after a `/`
pub record FoundAt : Type 0 where
  pub icb : Icb
  pub tree : Option Icb
  pub folder : List ℕ
  pub name : List ℕ

-- that of an entry which is found in a torn folder
abbrev pub found_at : Option Icb → NodeFields → Found → FoundAt
found_at tree n f = record { icb = icb_of_entry f.lost; tree = tree; folder = names_text n.path; name = names_text (f.name ∷ []) }

-- a name of one of these entries is found in this folder
abbrev pub IsFoundAt : View → List Unnamed → Option Icb → NodeFields → FoundAt → Type 0
IsFoundAt view us tree n p = (f : Found) × Contains (found_names view us n.icb) f × (p ≡ found_at tree n f)

-- in a torn folder among nodes
abbrev pub IsFoundAmong : View → List Unnamed → Option Icb → List NodeFields → FoundAt → Type 0
IsFoundAmong view us tree nodes p = (n : NodeFields) × Contains (torn_folders nodes) n × IsFoundAt view us tree n p

-- in one of the nodes of a lost tree among these
abbrev pub IsFoundBelow : View → List Unnamed → List LostTree → FoundAt → Type 0
IsFoundBelow view us trees p = (t : LostTree) × Contains trees t × IsFoundAmong view us (Some t.folder) t.nodes.items p

-- of a volume that has these nodes, or of a lost tree
abbrev pub IsFoundIn : View → List Unnamed → List NodeFields → List LostTree → FoundAt → Type 0
IsFoundIn view us nodes trees p = IsFoundAmong view us None nodes p ⊎ IsFoundBelow view us trees p

-- ---- places

-- the number, or one of these names of what has it
abbrev pub IsSeat : List FoundAt → Icb → Option FoundAt → Type 0
IsSeat names icb None = ⊤
IsSeat names icb (Some p) = Contains names p × (p.icb ≡ icb)

-- `lost:` and the block of the folder, or of the file, with the partition reference in front where there are two partitions
abbrev pub tree_word : Bool → Icb → List ℕ
tree_word two icb = codes "lost:" ++ icb_number two icb.reference icb.block

-- that of the lost tree in which a torn folder is, if it is in one
abbrev pub lead_word : Bool → Option Icb → List ℕ
lead_word two None = []
lead_word two (Some icb) = tree_word two icb

-- the same as a part of a path: a `/`, and the number
abbrev pub lead_part : Bool → Option Icb → List ℕ
lead_part two None = []
lead_part two (Some icb) = codes "/" ++ icb_number two icb.reference icb.block

-- `found:`, and the path of a name that is found
abbrev pub found_word : Bool → FoundAt → List ℕ
found_word two p = codes "found:" ++ lead_word two p.tree ++ p.folder ++ p.name

-- the folder in which it is, below `by-name`
abbrev pub found_way : Bool → FoundAt → List ℕ
found_way two p = codes "by-name" ++ lead_part two p.tree ++ p.folder

-- and the name
abbrev pub found_part : Bool → FoundAt → List ℕ
found_part two p = found_way two p ++ p.name

-- what stands before the paths of a tree in what is printed
abbrev pub seat_word : Bool → Icb → Option FoundAt → List ℕ
seat_word two icb None = tree_word two icb
seat_word two icb (Some p) = found_word two p

-- where a tree is written in the folder for what is lost
abbrev pub seat_part : Bool → Icb → Option FoundAt → List ℕ
seat_part two icb None = icb_number two icb.reference icb.block
seat_part two icb (Some p) = found_part two p

-- the path of the tree's first node
abbrev pub seat_path : List ℕ → Bool → Icb → Option FoundAt → List ℕ
seat_path folder two icb seat = folder ++ codes "/" ++ seat_part two icb seat
