-- What a report says of the nodes that some words of `--only` stand for, below them and above them. Without words it is what it says of all.
--     nodes_at, blocks_for   these nodes, and the blocks to read again for them
--     AllStand             each word stands for something
--     IsReportFor          the report of a table, in which each word does, and what is to be read again for them is enough
--     are_whole            all of them are whole, and there are some
--     IsListingFor         the listing of these nodes of it alone
--     NamesNothing         a word stands for nothing, and is named
--     IsNowhere            the same of the table's report
--     IsUntoldFor          the table has no report, or a word stands for nothing, or memory ran out
use Rattle.std.specs.Prelude.{◌≡◌, ◌⊎◌, ℕ, ◌+◌, ◌<◌, Bool, true, false, List, Some, alloc_error, slice_get}
use Rattle.udfs_lattice.specs.Tables.{Table, state_of}
use Rattle.udfs_volume.specs.declared.profiles.Profile.{Profile}
use Rattle.udfs_walk.specs.NodeFields.{NodeFields}
use Rattle.udfs_salvage.specs.Headline.{HeadlineBy}
use Rattle.udfs_salvage.specs.InLine.{RereadsSufficeFor, nodes_for, reread_for}
use Rattle.udfs_salvage.specs.Reports.{Report, IsReportBy, all_whole}
use Rattle.udfs_common.specs.declared.refusal.Refusal.{Refusal}
use Rattle.udfs_common.specs.declared.refusal.Refusal.TheVariants.{Memory, NoNode}
use Rattle.udfs_remarks.specs.NoReports.{IsUntold}
use Rattle.udfs_remarks.specs.Wanted.{all_wanted, stands_for_nothing}

-- the nodes at the paths that the words stand for, below them and above them
abbrev pub nodes_at : List (List ℕ) → Report → List NodeFields
nodes_at only report = nodes_for (all_wanted true report.nodes only) report

-- the blocks to read again for them
abbrev pub blocks_for : List (List ℕ) → Report → List ℕ
blocks_for only report = reread_for (all_wanted true report.nodes only) report

-- each word stands for something
abbrev pub AllStand : List (List ℕ) → List NodeFields → Type 0
AllStand words nodes = (k : ℕ) (word : List ℕ) → slice_get words k ≡ Some word → stands_for_nothing nodes word ≡ false

-- the word with this number, counted from 1, stands for nothing, and none before it does
pub record FindsNothing (words : List (List ℕ)) (nodes : List NodeFields) (number : ℕ) : Type 0 where
  pub index : ℕ
  pub counted : number ≡ index + 1
  pub word : List ℕ
  pub stands : slice_get words index ≡ Some word
  pub nothing : stands_for_nothing nodes word ≡ true
  pub first : (k : ℕ) (other : List ℕ) → k < index → slice_get words k ≡ Some other → stands_for_nothing nodes other ≡ false

-- all that is promised of reports holds of it; each word stands for nodes, or for what a directory that is not whole may hide; and the blocks to read again for them are needed, and enough
pub record IsReportFor (only : List (List ℕ)) (profile : Profile) (last : ℕ) (table : Table) (report : Report) : Type 0 where
  pub headline : HeadlineBy profile (state_of table) last report
  pub may_be : AllStand only report.nodes
  pub suffices : RereadsSufficeFor (all_wanted true report.nodes only) profile (state_of table) last report (blocks_for only report)

-- all nodes at the paths, below them and above them are whole, and there are some
abbrev pub are_whole : List (List ℕ) → Report → Bool
are_whole only report = all_whole (nodes_at only report)

-- the nodes of the table's report that are at the paths, below them and above them, and the blocks to read again for them
pub record IsListingFor (only : List (List ℕ)) (profile : Profile) (last : ℕ) (table : Table) (kept : Report) : Type 0 where
  pub report : Report
  pub is_report : IsReportFor only profile last table report
  pub volume : kept.volume ≡ report.volume
  pub nodes : kept.nodes ≡ nodes_at only report
  pub blocks : kept.reread ≡ blocks_for only report

-- the first word that stands for nothing is named by its number, counted from 1
pub record NamesNothing (only : List (List ℕ)) (report : Report) (refusal : Refusal) : Type 0 where
  pub number : ℕ
  pub first : FindsNothing only report.nodes number
  pub told : refusal ≡ NoNode number

-- that, or memory ran out
abbrev pub MayNotBeNode : List (List ℕ) → Report → Refusal → Type 0
MayNotBeNode only report refusal = (refusal ≡ Memory alloc_error) ⊎ NamesNothing only report refusal

-- the table has a report, and a word stands for nothing in it
pub record IsNowhere (only : List (List ℕ)) (profile : Profile) (last : ℕ) (refusal : Refusal) (table : Table) : Type 0 where
  pub report : Report
  pub is_report : IsReportBy profile (state_of table) last report
  pub names : NamesNothing only report refusal

-- the table has no report, or memory ran out; or a word stands for nothing
abbrev pub IsUntoldFor : List (List ℕ) → Profile → ℕ → Refusal → Table → Type 0
IsUntoldFor only profile last refusal table = IsUntold profile last refusal table ⊎ IsNowhere only profile last refusal table
