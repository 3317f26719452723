-- All that a summary counts.
--     figures_of rules table last report         the figures of a report
--     IsCounted rules table last report figures rows count      these are its figures, and its torn files that are shown
use Rattle.std.specs.Prelude.{◌≡◌, ℕ, ◌==◌, ◌&&◌, Bool, List, length}
use Rattle.udfs_lattice.specs.Tables.{Table, state_of}
use Rattle.udfs_lattice.specs.Volumes.{Blocks}
use Rattle.udfs_volume.specs.declared.profiles.Profile.{Profile}
use Rattle.udfs_salvage.specs.Reports.{Report, all_whole}
use Rattle.udfs_overview.specs.Disagreements.{anchors_of, copies_of}
use Rattle.udfs_overview.specs.DiscTallies.{disc_of, unnamed_of}
use Rattle.udfs_overview.specs.LeftOut.{left_out_types}
use Rattle.udfs_overview.specs.MovedTags.{moved_count}
use Rattle.udfs_overview.specs.NodeWidenings.{wider_count}
use Rattle.udfs_overview.specs.Spares.{spares_disagree}
use Rattle.udfs_overview.specs.Streams.{stream_count}
use Rattle.udfs_overview.specs.Tallies.{tally_of}
use Rattle.udfs_overview.specs.TornLists.{AreShown, torn_rows}
use Rattle.udfs_overview.specs.TornRows.{Row}
use Rattle.udfs_overview.specs.Widenings.{widening_by}
use Rattle.udfs_overview.specs.declared.disc_tallies.DiscTally.{DiscTally}
use Rattle.udfs_overview.specs.declared.summary_figures.Figures.{Figures}
use Rattle.udfs_overview.specs.declared.tallies.Tally.{Tally}

-- there are nodes, all are whole, and none is a file of a type that is not written
abbrev pub is_all_whole : Report → Bool
is_all_whole r = all_whole r.nodes && length (left_out_types r.nodes) == 0

-- the figures of a report, where this is counted of its nodes and of the blocks of its disc
unfoldable pub figures_in : Profile → Blocks → Tally → DiscTally → ℕ → Report → Figures
figures_in rules blocks tally disc last r = record {
  profile = rules;
  last = last;
  all_whole = is_all_whole r;
  tally = tally;
  disc = disc;
  unnamed = unnamed_of r.unnamed;
  moved = moved_count blocks r;
  streams = stream_count blocks r;
  spares_disagree = spares_disagree blocks r.volume;
  anchors = anchors_of blocks last;
  copies_differ = copies_of rules blocks last;
  wider = wider_count rules blocks last r.nodes;
  widening = widening_by rules blocks last;
}

-- the figures of a report, by what a table knows
abbrev pub figures_of : Profile → Table → ℕ → Report → Figures
figures_of rules table last r = figures_in rules (state_of table) (tally_of (state_of table) r.nodes) (disc_of table last r.reread) last r

-- these are the figures of a report, and the rows and the number of its torn files
pub record IsCounted (rules : Profile) (table : Table) (last : ℕ) (r : Report) (figures : Figures) (rows : List Row) (count : ℕ) : Type 0 where
  pub figures_are : figures ≡ figures_of rules table last r
  pub torn_are : AreShown (torn_rows (state_of table) r.nodes) rows count
