-- All that is promised of a report, on one page.
--     HeadlineBy profile blocks last report    by the rules of a profile it is the only report of the table; and for each lawful volume that agrees
--                                      with the table, it describes the volume and its tree, what is known enough is whole and stays so, and the
--                                      list to read again is right
--     OneReportBy, SomeReportBy        a table has at most one report; one that agrees with a lawful volume has one
--     OneTextBy                        and at most one text
-- The same names without By are these by the strict rules.
use Rattle.std.specs.Prelude.{◌≡◌, ℕ, List, Contains}
use Rattle.udfs_volume.specs.declared.profiles.Profile.{Profile}
use Rattle.udfs_volume.specs.declared.profiles.Profile.TheVariants.{Strict}
use Rattle.udfs_lattice.specs.Tables.{Table, state_of}
use Rattle.udfs_lattice.specs.Volumes.{Blocks, Volume, Agrees}
use Rattle.udfs_osta.specs.Escapes.{escaped}
use Rattle.udfs_osta.specs.Parts.{IsPathPart}
use Rattle.udfs_walk.specs.NodeFields.{NodeFields}
use Rattle.udfs_salvage.specs.Laws.{TellsLawfulBy}
use Rattle.udfs_salvage.specs.KnownEnough.{MetIsReported, RereadsSuffice, StaysWhole}
use Rattle.udfs_salvage.specs.NodeTexts.{report_text_by}
use Rattle.udfs_salvage.specs.Reports.{Report, IsReportBy}
use Rattle.udfs_salvage.specs.TreeReports.{TellsTreeBy, TellsWholeTreeBy}
use Rattle.udfs_salvage.specs.VolumeTrees.{IsLawfulBy}

-- What is promised of a report over what is known of a volume's blocks, of which this is the last.
pub record HeadlineBy (profile : Profile) (blocks : Blocks) (last : ℕ) (report : Report) : Type 0 where
  -- it is the report of the table, and there is no other
  pub report_is : IsReportBy profile blocks last report
  pub only : (other : Report) → IsReportBy profile blocks last other → other ≡ report
  -- Each part of each node's path, in its escaped form, is not empty, not `.` or `..`, and has no `/` and no control.
  pub parts : (n : NodeFields) → Contains report.nodes n → (part : List ℕ) → Contains n.path part → IsPathPart (escaped part)
  -- The rest is said of each lawful volume with which the table agrees.
  -- The volume that is found is that one, or all blocks of a needed group of which none is known are named.
  pub volume : TellsLawfulBy profile blocks last report.volume
  -- Each node is one of the volume's tree at its path, no fault and no loop. Its entry was not read, or it has the tree's kind, size and stamp, and
  -- the tree's bytes outside its holes; if it is whole, all bytes, and of each group of blocks that it needs one is known. No path has two nodes.
  pub tree : TellsTreeBy profile blocks last report
  -- Where all of the volume is known, the nodes are those of its tree, each once and all whole.
  pub whole_tree : TellsWholeTreeBy profile blocks last report
  -- What is in the tree, and of each needed group of which a block is known, is whole.
  pub met : MetIsReported profile blocks last report
  -- What is whole stays whole, at its path and with its bytes, for each table that agrees with the volume too, knows more and disputes nothing of it.
  pub stays : StaysWhole profile blocks last report
  -- The list to read again is empty exactly if all of the tree is whole. None of it is known; each is needed, or an anchor place while no valid anchor is
  -- known; and of each node that is not whole it holds a needed group of which none is known: so a pass that reads none of it makes no further node whole.
  pub rereads : RereadsSuffice profile blocks last report

-- the same by the strict rules
abbrev pub Headline : Blocks → ℕ → Report → Type 0
Headline = HeadlineBy Strict

-- a table has at most one report
abbrev pub OneReportBy : Profile → Type 0
OneReportBy profile = (blocks : Blocks) (last : ℕ) (report other : Report) → IsReportBy profile blocks last report → IsReportBy profile blocks last other → other ≡ report

-- the same by the strict rules
abbrev pub OneReport : Type 0
OneReport = OneReportBy Strict

-- a table that agrees with a lawful volume has a report
abbrev pub SomeReportBy : Profile → Type 0
SomeReportBy profile = (blocks : Blocks) (volume : Volume) (last : ℕ) → IsLawfulBy profile volume last → Agrees blocks volume last → (report : Report) × IsReportBy profile blocks last report

-- the same by the strict rules
abbrev pub SomeReport : Type 0
SomeReport = SomeReportBy Strict

-- a table has at most one report text
abbrev pub OneTextBy : Profile → Type 0
OneTextBy profile = (table : Table) (last : ℕ) (report other : Report) → IsReportBy profile (state_of table) last report → IsReportBy profile (state_of table) last other
    → report_text_by profile table last other ≡ report_text_by profile table last report

-- the same by the strict rules
abbrev pub OneText : Type 0
OneText = OneTextBy Strict

-- of every report of a table the headline holds
abbrev pub ReportsKeepItBy : Profile → Type 0
ReportsKeepItBy profile = (blocks : Blocks) (last : ℕ) (report : Report) → IsReportBy profile blocks last report → HeadlineBy profile blocks last report

-- the same by the strict rules
abbrev pub ReportsKeepIt : Type 0
ReportsKeepIt = ReportsKeepItBy Strict
