-- The summary of a report.
--     folders_line tally path      the line of the folders, and where names may be missing
--     next_lines words figures report                 what to do next
--     summary_text words rules table last report answer      all lines, where this is known of its lawfulness and of what is lost
use Rattle.std.specs.Prelude.{ℕ, ◌-◌, ◌==◌, ◌&&◌, Bool, List, [], ◌∷◌, ◌++◌, Option, Some, None, codes, cond, find, length, option_map, if◌then◌else◌}
use Rattle.udfs_lattice.specs.Tables.{Table, state_of}
use Rattle.udfs_volume.specs.Answers.{Answer, found, holes, faulty}
use Rattle.udfs_volume.specs.declared.profiles.Profile.{Profile}
use Rattle.udfs_volume.specs.declared.profiles.Profile.TheVariants as profile
use Rattle.udfs_walk.specs.NodeFields.{NodeFields}
use Rattle.udfs_salvage.specs.Found.{Found}
use Rattle.udfs_salvage.specs.Reports.{Report}
use Rattle.udfs_overview.specs.Disagreements.{apart_lines}
use Rattle.udfs_overview.specs.Guarantees.{guarantee_line}
use Rattle.udfs_overview.specs.LeftOut.{left_out_line, left_out_types, wide_writes}
use Rattle.udfs_overview.specs.LostSummaries.{lost_lines}
use Rattle.udfs_overview.specs.MovedTags.{moved_line}
use Rattle.udfs_overview.specs.Narrow.{narrow}
use Rattle.udfs_overview.specs.NextCommands.{extract_command, needed_steps, summary_command}
use Rattle.udfs_overview.specs.NodeWidenings.{wider_line}
use Rattle.udfs_overview.specs.Repeating.{GivenWords, pass_number}
use Rattle.udfs_overview.specs.Sentences.{counted, part, sentence}
use Rattle.udfs_overview.specs.Spares.{spares_line}
use Rattle.udfs_overview.specs.Streams.{streams_line}
use Rattle.udfs_overview.specs.SummaryFigures.{figures_of}
use Rattle.udfs_overview.specs.SummaryTexts.{disc_line, files_line, others_line}
use Rattle.udfs_overview.specs.Tallies.{is_node_of}
use Rattle.udfs_overview.specs.TornLists.{first_rows, more_line, shown_path, torn_rows, torn_text}
use Rattle.udfs_overview.specs.TornRows.{Row}
use Rattle.udfs_overview.specs.UnreadLists.{unread_paths, unread_text}
use Rattle.udfs_overview.specs.VolumeLines.{volume_line}
use Rattle.udfs_overview.specs.Widenings.{widening_text}
use Rattle.udfs_overview.specs.declared.verdicts.Verdict.{Verdict}
use Rattle.udfs_overview.specs.declared.widenings.Widening.{Widening}
use Rattle.udfs_overview.specs.declared.widenings.Widening.TheVariants as wide
use Rattle.udfs_overview.specs.declared.tallies.NodeSort.TheVariants as sort
use Rattle.udfs_overview.specs.declared.summary_figures.Figures.{Figures}
use Rattle.udfs_overview.specs.declared.tallies.Tally.{Tally}

-- the path of the first torn directory
abbrev pub torn_folder : List NodeFields → Option (List (List ℕ))
torn_folder nodes = option_map (λ (n : NodeFields). n.path) (find (is_node_of sort.TornFolder) nodes)

-- where names may be missing, in 80 columns
unfoldable pub missing_line : List (List ℕ) → List ℕ
missing_line path = codes "           names may be missing in " ++ narrow 21 (shown_path path) ++ codes "\n"

-- the first of this many torn directories, and how many more
abbrev pub missing_in : ℕ → List (List ℕ) → List ℕ
missing_in torn path = missing_line path ++ more_line (torn - 1)

-- where names may be missing, if anywhere
abbrev pub names_missing : ℕ → Option (List (List ℕ)) → List ℕ
names_missing torn None = []
names_missing torn (Some path) = missing_in torn path

-- how many folders are whole, and how many torn
unfoldable pub folders_counts : Tally → List ℕ
folders_counts t = codes "Folders    " ++ counted t.whole_folders (codes " whole") ++ part (codes "   ") t.torn_folders (codes " torn") ++ codes "\n"

-- the lines of the folders, if there are any; the root is one
unfoldable pub folders_line : Tally → Option (List (List ℕ)) → List ℕ
folders_line t path = if t.whole_folders == 0 && t.torn_folders == 0 then [] else folders_counts t ++ names_missing t.torn_folders path

-- the lines of what is counted of a volume that opens
unfoldable pub counts_lines : Figures → Report → List ℕ
counts_lines f r =
    files_line f.tally ++ folders_line f.tally (torn_folder r.nodes) ++ others_line f.tally
    ++ left_out_line (left_out_types r.nodes)

-- the lines of what is found of the nodes of a volume that opens
unfoldable pub nodes_lines : Figures → Report → List ℕ
nodes_lines f r = sentence f.tally (length r.reread) ++ counts_lines f r

-- there is nothing found of a volume that does not open
abbrev pub found_lines : Answer Found → Figures → Report → List ℕ
found_lines (found o) f r = nodes_lines f r ++ streams_line f.streams ++ moved_line f.moved ++ spares_line f.spares_disagree
found_lines (holes blocks) f r = []
found_lines (faulty fault) f r = []

-- and what is lost of it, which may be found where it does not open
abbrev pub all_found_lines : Answer Found → Figures → Report → Verdict → List ℕ
all_found_lines volume f r answer = found_lines volume f r ++ lost_lines answer.lost

-- ---- what to do next

-- what stands before the first line of what to do next, and before the others
abbrev pub next_label : List ℕ
next_label = codes "Next       "

-- the spaces in the place of this word before the next lines
abbrev pub next_indent : List ℕ
next_indent = codes "           "

-- the command that writes the files of a volume of which nothing is worth reading again
abbrev pub extract_lines : GivenWords → Profile → ℕ → Bool → List ℕ
extract_lines g rules last whole =
    (if whole then codes "Next       All is whole. Write it out:\n" else codes "Next       No block is worth reading again. Write out what is whole:\n")
    ++ next_indent ++ extract_command g rules last

-- the summary by the wide rules, of a volume that these read
unfoldable pub wide_lines : GivenWords → ℕ → Widening → List ℕ
wide_lines g last other = next_label ++ widening_text other ++ codes "\n           " ++ summary_command g profile.Wide last

-- of a volume with a fault: it does not open by these rules, whatever is read again
abbrev pub fault_lines : GivenWords → ℕ → Widening → List ℕ
fault_lines g last wide.No = codes "Next       Reading blocks again will not help:\n           man udfsalvage-errors explains this fault\n"
fault_lines g last wide.Wants = wide_lines g last wide.Wants
fault_lines g last (wide.Reads revision) = wide_lines g last (wide.Reads revision)

-- where no block is worth reading again
abbrev pub no_need_lines : GivenWords → Figures → Answer Found → List ℕ
no_need_lines g f (found o) = extract_lines g f.profile f.last f.all_whole
no_need_lines g f (holes blocks) = []
no_need_lines g f (faulty fault) = fault_lines g f.last f.widening

-- where blocks are worth reading again
abbrev pub again_lines : GivenWords → Figures → List ℕ
again_lines g f = needed_steps next_label next_indent g f.profile f.last (pass_number g f.disc.known) f.disc.needed_in_conflict

-- where these are
abbrev pub next_by : GivenWords → Figures → Answer Found → List ℕ → List ℕ
next_by g f volume [] = no_need_lines g f volume
next_by g f volume (n ∷ ns) = again_lines g f

-- the summary by the wide rules, where these write files that the strict ones leave out
unfoldable pub left_out_lines : GivenWords → ℕ → List ℕ
left_out_lines g last = codes "Next       The wide rules also write files that are left out here:\n           " ++ summary_command g profile.Wide last

-- what to do next
unfoldable pub next_lines : GivenWords → Figures → Report → List ℕ
next_lines g f r = cond (wide_writes r.nodes) (left_out_lines g f.last) (next_by g f r.volume r.reread)

-- all lines of a report with these figures, of a disc that is read with these arguments, where these rows of so many torn files are shown, and this answers whether
-- it is lawful, and what is lost of it
unfoldable pub summary_lines : GivenWords → Figures → List Row → ℕ → Report → Verdict → List ℕ
summary_lines g f rows count r answer =
    volume_line r.volume f.last ++ apart_lines f.anchors f.copies_differ ++ all_found_lines r.volume f r answer ++ wider_line f.wider ++ (guarantee_line answer.lawfulness ++ disc_line f.disc)
    ++ unread_text (unread_paths r.nodes)
    ++ torn_text rows count
    ++ next_lines g f r

-- all lines of a report by the rules of a profile
unfoldable pub summary_text : GivenWords → Profile → Table → ℕ → Report → Verdict → List ℕ
summary_text g rules table last r answer =
    summary_lines g (figures_of rules table last r) (first_rows (torn_rows (state_of table) r.nodes)) (length (torn_rows (state_of table) r.nodes)) r answer
