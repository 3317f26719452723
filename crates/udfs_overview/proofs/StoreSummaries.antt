-- The summary of what is counted of a store of blocks is that of a table with the same states; it is made before any of it is written.
use Rattle.std.proofs.Common.{◌≡◌, ◌∙◌, refl, sym, ap, ℕ, List, [], ◌++◌, length}
use Rattle.std.proofs.KnownBytes.{Appends-nil}
use Rattle.udfs_lattice.specs.Tables.{Table, state_of}
use Rattle.udfs_lattice.specs.Volumes.{Blocks}
use Rattle.udfs_lattice.specs.declared.blocks.GaveUp.{GaveUp}
use Rattle.udfs_lattice.specs.declared.blocks.GaveUp.TheVariants as gave_up
use Rattle.udfs_reading.specs.Device.{Stream}
use Rattle.udfs_volume.specs.declared.profiles.Profile.{Profile}
use Rattle.udfs_salvage.specs.Printing.{Stopped}
use Rattle.udfs_salvage.specs.Reports.{Report}
use Rattle.udfs_salvage.specs.StorePrinting.{leaves_as, print_error}
use Rattle.udfs_salvage.specs.declared.errors.RunError.TheVariants.{OutOfMemory}
use Rattle.udfs_overview.specs.Repeating.{GivenWords}
use Rattle.udfs_overview.specs.Summaries.{summary_lines, summary_text}
use Rattle.udfs_overview.specs.SummaryFigures.{IsCounted, figures_of}
use Rattle.udfs_overview.specs.SummaryJson.{figures_json, summary_json}
use Rattle.udfs_overview.specs.TornRows.{Row}
use Rattle.udfs_overview.specs.declared.summary_figures.Figures.{Figures}
use Rattle.udfs_overview.specs.declared.verdicts.Verdict.{Verdict}

-- what is counted says what the summary is
pub text_of_counts : (g : GivenWords) (rules : Profile) (t : Table) (last : ℕ) (r : Report) (answer : Verdict) (f : Figures) (rows : List Row) (count : ℕ)
    → IsCounted rules t last r f rows count → summary_lines g f rows count r answer ≡ summary_text g rules t last r answer
unfolding summary_text
text_of_counts g rules t last r answer f rows count counted = λ i. summary_lines g (counted.figures_are i) (counted.torn_are.first i) (counted.torn_are.many i) r answer

pub json_of_counts : (rules : Profile) (t : Table) (last : ℕ) (r : Report) (answer : Verdict) (f : Figures) (rows : List Row) (count : ℕ)
    → IsCounted rules t last r f rows count → figures_json r.volume f answer ≡ summary_json rules t last r answer
unfolding summary_json
json_of_counts rules t last r answer f rows count counted = λ i. figures_json r.volume (counted.figures_are i) answer

-- memory ran out before any of a text was written
pub none_written : (a : Stream) (text : List ℕ) → Stopped a a text OutOfMemory
none_written a text = record { out = []; rest = text; given = Appends-nil a.contents; whole = refl; count = refl }

-- or a read failed
pub gave_up_first : (a : Stream) (text : List ℕ) (why : GaveUp) → Stopped a a text (leaves_as (print_error why))
gave_up_first a text gave_up.OutOfMemory = none_written a text
gave_up_first a text gave_up.Unread = none_written a text
