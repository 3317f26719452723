-- What holds of the report of a table, for each volume that is lawful by the rules of a profile and agrees with the table.
--     MetIsReported profile blocks last report      what is in the tree and known enough is whole
--     StaysWhole profile blocks last report         what is whole is whole for each table that knows more
--     RereadsSuffice profile blocks last report     what is listed to be read again is needed, and enough of it
use Rattle.std.specs.Prelude.{◌≡◌, ◌≢◌, ◌⊎◌, ◌↔◌, ℕ, List, [], Contains}
use Rattle.udfs_volume.specs.declared.profiles.Profile.{Profile}
use Rattle.udfs_volume.specs.declared.profiles.Profile.TheVariants.{Strict}
use Rattle.udfs_lattice.specs.States.{IsBelow, join_of}
use Rattle.udfs_lattice.specs.Volumes.{Blocks, Volume, Agrees, IsKnownAt, IsUnread}
use Rattle.udfs_lattice.specs.declared.facts.Fact.TheVariants.{Conflict}
use Rattle.udfs_volume.specs.Answers.{found}
use Rattle.udfs_volume.specs.Laws.{valid_anchors}
use Rattle.udfs_volume.specs.Sequence.{anchor_places}
use Rattle.udfs_space.specs.Places.{view}
use Rattle.udfs_walk.specs.Trees.{TreeFile}
use Rattle.udfs_walk.specs.KnownLaws.{HoldsGroup, IsListedWhole}
use Rattle.udfs_salvage.specs.Found.{Found}
use Rattle.udfs_salvage.specs.Reports.{Report, IsReportBy}
use Rattle.udfs_salvage.specs.VolumeTrees.{IsLawfulBy, IsInVolumeBy, IsNeededIn, IsMetBy}

-- the report has a node of this path that is whole, as the file
abbrev pub IsReportedWhole : Blocks → Report → List (List ℕ) → TreeFile → Type 0
IsReportedWhole blocks report path file = (f : Found) × (report.volume ≡ found f) × IsListedWhole (view blocks f.space) f.root report.nodes path file

-- for each lawful volume with which the table agrees
abbrev pub ForLawful : Profile → Blocks → ℕ → (Volume → Type 0) → Type 0
ForLawful profile blocks last Holds = (volume : Volume) → IsLawfulBy profile volume last → Agrees blocks volume last → Holds volume

-- a node of the tree, of each needed group of which a block is known, is reported whole
abbrev pub MetIsReported : Profile → Blocks → ℕ → Report → Type 0
MetIsReported profile blocks last report = ForLawful profile blocks last (λ volume. (path : List (List ℕ)) (file : TreeFile) → IsInVolumeBy profile volume last path file
    → IsMetBy profile blocks volume last path → IsReportedWhole blocks report path file)

-- the second table knows what the first knows, and disputes nothing of it
pub record KnowsMore (blocks more : Blocks) : Type 0 where
  pub below : (n : ℕ) → IsBelow (blocks n) (more n)
  pub undisputed : (n : ℕ) → IsKnownAt blocks n → more n ≢ Conflict

-- what is whole is whole, with the same path and bytes, in the report of each table that agrees with the volume too and knows more
abbrev pub StaysWhole : Profile → Blocks → ℕ → Report → Type 0
StaysWhole profile blocks last report = ForLawful profile blocks last (λ volume. (more : Blocks) (other : Report) → Agrees more volume last → IsReportBy profile more last other
    → KnowsMore blocks more → (path : List (List ℕ)) (file : TreeFile) → IsReportedWhole blocks report path file → IsReportedWhole more other path file)

-- the node of this path needs the group, and none of it is known
abbrev pub IsWantedIn : Profile → Blocks → Volume → ℕ → List (List ℕ) → List ℕ → Type 0
IsWantedIn profile blocks volume last path group = IsNeededIn profile volume last path group × IsUnread blocks group

-- these blocks hold all of some group that is wanted for the node of this path
abbrev pub HoldsWantedIn : Profile → Blocks → Volume → ℕ → List (List ℕ) → List ℕ → Type 0
HoldsWantedIn profile blocks volume last path listed = HoldsGroup (IsWantedIn profile blocks volume last path) listed

-- the block is in a group that is wanted for some node of the tree
abbrev pub IsWantedBlock : Profile → Blocks → Volume → ℕ → ℕ → Type 0
IsWantedBlock profile blocks volume last n = (path : List (List ℕ)) × (file : TreeFile) × (group : List ℕ) × IsInVolumeBy profile volume last path file
    × IsWantedIn profile blocks volume last path group × Contains group n

-- What is asked of the list of blocks to read again.
pub record IsGoodReread (profile : Profile) (blocks : Blocks) (last : ℕ) (report : Report) (volume : Volume) : Type 0 where
  -- it is empty exactly if all of the tree is reported whole
  pub none : (report.reread ≡ []) ↔ ((path : List (List ℕ)) (file : TreeFile) → IsInVolumeBy profile volume last path file → IsReportedWhole blocks report path file)
  -- none of it is known
  pub not_known : IsUnread blocks report.reread
  -- each is in a wanted group, or an anchor place while no valid anchor is known
  pub each : (n : ℕ) → Contains report.reread n
      → IsWantedBlock profile blocks volume last n ⊎ (Contains (anchor_places last) n × IsUnread blocks (valid_anchors volume last))
  -- each node of the tree is reported whole, or the list holds all of a group that it wants
  pub whole_or_held : (path : List (List ℕ)) (file : TreeFile) → IsInVolumeBy profile volume last path file
      → IsReportedWhole blocks report path file ⊎ HoldsWantedIn profile blocks volume last path report.reread
  -- so a pass that reads no listed block makes no further node whole
  pub needed_pass : (pass joined : Blocks) (other : Report) → ((n : ℕ) → joined n ≡ join_of (blocks n) (pass n)) → Agrees joined volume last
      → IsUnread pass report.reread → IsReportBy profile joined last other → (path : List (List ℕ)) (file : TreeFile) → IsInVolumeBy profile volume last path file
      → IsReportedWhole joined other path file → IsReportedWhole blocks report path file

-- for each lawful volume that agrees, the list of blocks to read again is good
abbrev pub RereadsSuffice : Profile → Blocks → ℕ → Report → Type 0
RereadsSuffice profile blocks last report = ForLawful profile blocks last (IsGoodReread profile blocks last report)

-- ---- laws of every report

-- what is known enough is reported whole
abbrev pub MetIsReportedWholeBy : Profile → Type 0
MetIsReportedWholeBy profile = (blocks : Blocks) (last : ℕ) (report : Report) → IsReportBy profile blocks last report → MetIsReported profile blocks last report

-- the same by the strict rules
abbrev pub MetIsReportedWhole : Type 0
MetIsReportedWhole = MetIsReportedWholeBy Strict

-- what is whole stays whole when more is known
abbrev pub MoreStaysWholeBy : Profile → Type 0
MoreStaysWholeBy profile = (blocks : Blocks) (last : ℕ) (report : Report) → IsReportBy profile blocks last report → StaysWhole profile blocks last report

-- the same by the strict rules
abbrev pub MoreStaysWhole : Type 0
MoreStaysWhole = MoreStaysWholeBy Strict

-- in each report the list of blocks to read again is good
abbrev pub EachRereadSufficesBy : Profile → Type 0
EachRereadSufficesBy profile = (blocks : Blocks) (last : ℕ) (report : Report) → IsReportBy profile blocks last report → RereadsSuffice profile blocks last report

-- the same by the strict rules
abbrev pub EachRereadSuffices : Type 0
EachRereadSuffices = EachRereadSufficesBy Strict
