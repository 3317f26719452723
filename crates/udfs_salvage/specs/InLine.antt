-- What has to be read again for the nodes at some paths, below them and above them: a torn directory above may hide a name.
--     lies_along word path         the path is printed so, or it is below or above what is printed so
--     is_in_line words path        it lies along one of these; where there are none all paths do
--     nodes_for words report       the nodes that do
--     reread_for words report      the blocks to read again for them
--     names_nothing nodes word     this is no node's path, and all directories above it are whole
--     FindsFirst, AllMayBe         the first word that names nothing; no word does
--     AsksInLine                   a path asks for those that its first names are, or that begin with all of its names
--     EachRereadForSuffices        the blocks to read again for these nodes are needed, and are enough of them
use Rattle.std.specs.Prelude.{◌≡◌, ◌⊎◌, ◌↔◌, ℕ, ◌+◌, ◌<◌, Bool, true, false, not, ◌||◌, ◌&&◌, List, [], ◌∷◌, Option, Some, None, Contains, slice_get, take}
use Rattle.std.specs.List.{list_any}
use Rattle.udfs_file.specs.declared.faults.Kind.{Kind}
use Rattle.udfs_file.specs.declared.faults.Kind.TheVariants.{Directory, Unread}
use Rattle.udfs_lattice.specs.States.{join_of}
use Rattle.udfs_lattice.specs.Volumes.{Blocks, Volume, Agrees, IsUnread}
use Rattle.udfs_walk.specs.KnownLaws.{taken}
use Rattle.udfs_walk.specs.Trees.{TreeFile}
use Rattle.udfs_volume.specs.Answers.{Answer, found, holes, faulty}
use Rattle.udfs_volume.specs.Laws.{valid_anchors}
use Rattle.udfs_volume.specs.Sequence.{anchor_places}
use Rattle.udfs_volume.specs.declared.profiles.Profile.{Profile}
use Rattle.udfs_walk.specs.NodeFields.{NodeFields}
use Rattle.udfs_walk.specs.Rereads.{reread}
use Rattle.udfs_walk.specs.Unsettled.{is_whole}
use Rattle.udfs_salvage.specs.Choosing.{is_node, is_under}
use Rattle.udfs_salvage.specs.Found.{Found}
use Rattle.udfs_salvage.specs.KnownEnough.{ForLawful, HoldsWantedIn, IsReportedWhole, IsWantedIn}
use Rattle.udfs_salvage.specs.NodeTexts.{path_name}
use Rattle.udfs_salvage.specs.Reports.{Report, IsReportBy}
use Rattle.udfs_salvage.specs.VolumeTrees.{IsInVolumeBy}

-- ---- which nodes

-- the path is at what is printed so, below it, or above it
abbrev pub lies_along : List ℕ → List (List ℕ) → Bool
lies_along word path = is_under word (path_name path) || is_under (path_name path) word

-- it lies along one of these words; without words each path does
abbrev pub is_in_line : List (List ℕ) → List (List ℕ) → Bool
is_in_line [] path = true
is_in_line (w ∷ words) path = list_any (λ word. lies_along word path) (w ∷ words)

-- of some names, the path of others is at them, below them or above them: its first names are printed as all of them are, or all of it as their first names
abbrev pub AsksInLine : Type 0
AsksInLine = (names path : List (List ℕ)) → (lies_along (path_name names) path ≡ true)
    ↔ (((k : ℕ) × (path_name (take k path) ≡ path_name names)) ⊎ ((k : ℕ) × (path_name (take k names) ≡ path_name path)))

-- the nodes of a report that are in line with these words
abbrev pub nodes_for : List (List ℕ) → Report → List NodeFields
nodes_for words report = taken (is_in_line words) report.nodes

-- ---- which blocks

-- the blocks that the volume lacks where it does not open; else those that the nodes in line with the words lack
abbrev pub reread_by : Answer Found → List (List ℕ) → Report → List ℕ
reread_by (found f) words report = reread (nodes_for words report)
reread_by (holes listed) words report = report.reread
reread_by (faulty fault) words report = report.reread

-- the blocks to read again for the nodes in line with the words
abbrev pub reread_for : List (List ℕ) → Report → List ℕ
reread_for words report = reread_by report.volume words report

-- ---- paths of nothing

-- a directory, or a node whose entry is not read
abbrev pub may_list : Kind → Bool
may_list Directory = true
may_list Unread = true
may_list _ = false

-- a directory that is not whole, above what is printed so
abbrev pub may_hide : NodeFields → List ℕ → Bool
may_hide n word = not (is_whole n.standing) && may_list n.kind && is_under (path_name n.path) word

-- some nodes are listed, this is the path of none of them, and each directory above it is whole
abbrev pub names_nothing : List NodeFields → List ℕ → Bool
names_nothing [] word = false
names_nothing (n ∷ nodes) word = not (is_node (n ∷ nodes) word) && not (list_any (λ m. may_hide m word) (n ∷ nodes))

-- no word names nothing
abbrev pub AllMayBe : List (List ℕ) → List NodeFields → Type 0
AllMayBe words nodes = (k : ℕ) (word : List ℕ) → slice_get words k ≡ Some word → names_nothing nodes word ≡ false

-- the word with this number, counted from 1, names nothing, and none before it does
pub record FindsFirst (words : List (List ℕ)) (nodes : List NodeFields) (number : ℕ) : Type 0 where
  pub index : ℕ
  pub counted : number ≡ index + 1
  pub word : List ℕ
  pub stands : slice_get words index ≡ Some word
  pub nothing : names_nothing nodes word ≡ true
  pub first : (k : ℕ) (other : List ℕ) → k < index → slice_get words k ≡ Some other → names_nothing nodes other ≡ false

-- the first word that names nothing, if one does
abbrev pub IsFirstOf : List (List ℕ) → List NodeFields → Option ℕ → Type 0
IsFirstOf words nodes None = AllMayBe words nodes
IsFirstOf words nodes (Some number) = FindsFirst words nodes number

-- ---- the blocks are needed, and enough

-- the block is in a group that is wanted for some node of the tree in line with the words
abbrev pub IsWantedFor : List (List ℕ) → Profile → Blocks → Volume → ℕ → ℕ → Type 0
IsWantedFor words profile blocks volume last n = (path : List (List ℕ)) × (file : TreeFile) × (group : List ℕ) × (is_in_line words path ≡ true) × IsInVolumeBy profile volume last path file
    × IsWantedIn profile blocks volume last path group × Contains group n

-- What is asked of the list of blocks to read again for the nodes in line with some words.
pub record IsGoodRereadFor (words : List (List ℕ)) (profile : Profile) (blocks : Blocks) (last : ℕ) (report : Report) (listed : List ℕ) (volume : Volume) : Type 0 where
  -- it is empty exactly if all of the tree in line with them is reported whole
  pub none : (listed ≡ []) ↔ ((path : List (List ℕ)) (file : TreeFile) → is_in_line words path ≡ true → IsInVolumeBy profile volume last path file → IsReportedWhole blocks report path file)
  -- none of it is known
  pub not_known : IsUnread blocks listed
  -- each is in a group that a node in line with them wants, or an anchor place while no valid anchor is known
  pub each : (n : ℕ) → Contains listed n
      → IsWantedFor words profile blocks volume last n ⊎ (Contains (anchor_places last) n × IsUnread blocks (valid_anchors volume last))
  -- each node of the tree in line with them is reported whole, or the list holds all of a group that it wants
  pub whole_or_held : (path : List (List ℕ)) (file : TreeFile) → is_in_line words path ≡ true → IsInVolumeBy profile volume last path file
      → IsReportedWhole blocks report path file ⊎ HoldsWantedIn profile blocks volume last path listed
  -- so a pass that reads no listed block makes none of these nodes whole that was not
  pub needed_pass : (pass joined : Blocks) (other : Report) → ((n : ℕ) → joined n ≡ join_of (blocks n) (pass n)) → Agrees joined volume last
      → IsUnread pass listed → IsReportBy profile joined last other → (path : List (List ℕ)) (file : TreeFile) → is_in_line words path ≡ true → IsInVolumeBy profile volume last path file
      → IsReportedWhole joined other path file → IsReportedWhole blocks report path file

-- for each lawful volume that agrees, these blocks to read again are good for the words
abbrev pub RereadsSufficeFor : List (List ℕ) → Profile → Blocks → ℕ → Report → List ℕ → Type 0
RereadsSufficeFor words profile blocks last report listed = ForLawful profile blocks last (IsGoodRereadFor words profile blocks last report listed)

-- in each report those for any words are
abbrev pub EachRereadForSuffices : Type 0
EachRereadForSuffices = (words : List (List ℕ)) (profile : Profile) (blocks : Blocks) (last : ℕ) (report : Report) → IsReportBy profile blocks last report
    → RereadsSufficeFor words profile blocks last report (reread_for words report)

-- and without words they are all that the report lists
abbrev pub RereadsForAll : Type 0
RereadsForAll = (profile : Profile) (blocks : Blocks) (last : ℕ) (report : Report) → IsReportBy profile blocks last report → reread_for [] report ≡ report.reread
