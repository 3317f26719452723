-- What is reported of a volume.
--     IsReportBy profile blocks last report    what is found of it by the rules of a profile, its nodes, and the blocks to read again
--     IsReport blocks last report          the same by the strict rules
--     IsPastEnd blocks last n              the least block above the last one of which something is known
--     HasTooManyPathsBy profile blocks last    it has more nodes than there may be
use Rattle.std.specs.Prelude.{◌≡◌, ◌≢◌, ◌⊎◌, ⊤, ℕ, ◌<◌, ◌≤◌, Bool, false, List, [], ◌∷◌}
use Rattle.std.specs.List.{list_all}
use Rattle.udfs_volume.specs.declared.profiles.Profile.{Profile}
use Rattle.udfs_volume.specs.declared.profiles.Profile.TheVariants.{Strict}
use Rattle.udfs_lattice.specs.Volumes.{Blocks}
use Rattle.udfs_lattice.specs.declared.facts.Fact.TheVariants.{Unknown}
use Rattle.udfs_volume.specs.Answers.{Answer, found, holes, faulty}
use Rattle.udfs_volume.specs.Layout.{layout_by}
use Rattle.udfs_volume.specs.declared.faults.VolumeFault.TheVariants.{NoAnchor, Extents}
use Rattle.udfs_space.specs.Places.{view}
use Rattle.udfs_walk.specs.NodeFields.{NodeFields}
use Rattle.udfs_walk.specs.Walks.{AreNodes}
use Rattle.udfs_walk.specs.Routes.{HasMoreRoutes}
use Rattle.udfs_walk.specs.UnnamedEntries.{unnamed}
use Rattle.udfs_walk.specs.Rereads.{reread}
use Rattle.udfs_walk.specs.declared.answers.Unnamed.{Unnamed}
use Rattle.udfs_walk.specs.Unsettled.{is_whole}
use Rattle.udfs_salvage.specs.Found.{Found, volume_by, volume_now}
use Rattle.udfs_salvage.specs.declared.errors.SalvageError.{SalvageError}
use Rattle.udfs_salvage.specs.declared.errors.SalvageError.TheVariants as errors
use Rattle.udfs_salvage.specs.declared.reports.Report as code_report

-- what a table says of a volume
pub record Report : Type 0 where
  pub volume : Answer Found
  pub nodes : List NodeFields
  pub unnamed : List Unnamed
  pub reread : List ℕ

-- the nodes of a volume that is found, the entries that no name leads to, and what is missing of torn nodes
pub record ReportsNodes (blocks : Blocks) (f : Found) (report : Report) : Type 0 where
  pub nodes_are : AreNodes (view blocks f.space) f.root report.nodes
  pub unnamed_is : report.unnamed ≡ unnamed (view blocks f.space) f.space report.nodes
  pub reread_is : report.reread ≡ reread report.nodes

-- no nodes, and only the blocks listed are to be read again
pub record ReportsNone (listed : List ℕ) (report : Report) : Type 0 where
  pub no_nodes : report.nodes ≡ []
  pub no_unnamed : report.unnamed ≡ []
  pub reread_is : report.reread ≡ listed

-- the report by what is found of the volume
abbrev pub ReportsBy : Blocks → Answer Found → Report → Type 0
ReportsBy blocks (found f) report = ReportsNodes blocks f report
ReportsBy blocks (holes listed) report = ReportsNone listed report
ReportsBy blocks (faulty fault) report = ReportsNone [] report

-- nothing is known of any block above the last one
abbrev pub IsNothingPast : Blocks → ℕ → Type 0
IsNothingPast blocks last = (n : ℕ) → last < n → blocks n ≡ Unknown

-- no volume has this last block: it is below 513 or above 4,194,303
abbrev pub IsOutOfRange : ℕ → Type 0
IsOutOfRange last = (last < 513) ⊎ (4194303 < last)

-- There is a report only of a last block in range, above which nothing is known: it says what is found of the volume, and
-- of a volume that opens its nodes, of which there are at most 65,536.
pub record IsReportBy (profile : Profile) (blocks : Blocks) (last : ℕ) (report : Report) : Type 0 where
  pub in_range : ¬ IsOutOfRange last
  pub nothing_past : IsNothingPast blocks last
  pub volume_is : report.volume ≡ volume_by profile blocks last
  pub by_volume : ReportsBy blocks report.volume report

-- the same by the strict rules
abbrev pub IsReport : Blocks → ℕ → Report → Type 0
IsReport = IsReportBy Strict

-- n is the least block above the last one of which something is known
pub record IsPastEnd (blocks : Blocks) (last n : ℕ) : Type 0 where
  pub past : last < n
  pub not_unknown : blocks n ≢ Unknown
  pub least : (m : ℕ) → last < m → blocks m ≢ Unknown → n ≤ m

-- more than 65,536 routes lead from the root of the volume to a node
abbrev pub HasTooManyPathsBy : Profile → Blocks → ℕ → Type 0
HasTooManyPathsBy profile blocks last = (f : Found) × (volume_by profile blocks last ≡ found f) × HasMoreRoutes (view blocks f.space) f.root 65536

-- the same by the strict rules
abbrev pub HasTooManyPaths : Blocks → ℕ → Type 0
HasTooManyPaths = HasTooManyPathsBy Strict

-- there are nodes, and all are whole
abbrev pub all_whole : List NodeFields → Bool
all_whole [] = false
all_whole (n ∷ ns) = list_all (λ n. is_whole n.standing) (n ∷ ns)

-- a report of the code, as the definitions see it
abbrev pub report_now : code_report.Report → Report
report_now r = record { volume = volume_now r.volume; nodes = r.nodes.items; unnamed = r.unnamed.items; reread = r.reread.items }

-- why nodes are not listed: there are too many, or memory ran out
abbrev pub IsWalkRefused : Blocks → Found → SalvageError → Type 0
IsWalkRefused blocks f errors.LastRange = ⊥
IsWalkRefused blocks f (errors.PastEnd n) = ⊥
IsWalkRefused blocks f errors.TooManyPaths = HasMoreRoutes (view blocks f.space) f.root 65536
IsWalkRefused blocks f errors.OutOfMemory = ⊤

-- memory may run out, but not over a volume without an anchor or with wrong extents: that is reported whatever memory there is
abbrev pub MayWantMemoryBy : Profile → Blocks → ℕ → Type 0
MayWantMemoryBy profile blocks last = (layout_by profile blocks last ≢ faulty NoAnchor) × (layout_by profile blocks last ≢ faulty Extents)

-- the same by the strict rules
abbrev pub MayWantMemory : Blocks → ℕ → Type 0
MayWantMemory = MayWantMemoryBy Strict

-- why a table has no report for this last block: no volume has it, or something is known above it
abbrev pub IsUnfit : Blocks → ℕ → SalvageError → Type 0
IsUnfit blocks last errors.LastRange = IsOutOfRange last
IsUnfit blocks last (errors.PastEnd n) = (¬ IsOutOfRange last) × IsPastEnd blocks last n
IsUnfit blocks last errors.TooManyPaths = ⊥
IsUnfit blocks last errors.OutOfMemory = ⊥

-- why a table that fits its last block has no report: too many paths, or out of memory where that can be
abbrev pub IsLookRefused : Profile → Blocks → ℕ → SalvageError → Type 0
IsLookRefused profile blocks last errors.LastRange = ⊥
IsLookRefused profile blocks last (errors.PastEnd n) = ⊥
IsLookRefused profile blocks last errors.TooManyPaths = HasTooManyPathsBy profile blocks last
IsLookRefused profile blocks last errors.OutOfMemory = MayWantMemoryBy profile blocks last
