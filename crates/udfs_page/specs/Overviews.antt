-- The summary at the head of the page.
--     title_html volume                what the page is of: the volume's name, where it opens
--     overview_html figures r answer   what is found of a volume, whether it is lawful and what is lost by this answer, and the blocks of its disc, a division a line
use Rattle.std.specs.Prelude.{ℕ, ◌-◌, ◌==◌, ◌&&◌, nat_le, List, [], ◌++◌, Option, Some, None, codes, length, if◌then◌else◌}
use Rattle.udfs_volume.specs.Answers.{Answer, found, holes, faulty}
use Rattle.udfs_salvage.specs.Found.{Found}
use Rattle.udfs_salvage.specs.Reports.{Report}
use Rattle.udfs_lawfulness.specs.declared.answers.Lawfulness.{Lawfulness}
use Rattle.udfs_lawfulness.specs.declared.answers.Lawfulness.TheVariants as answer
use Rattle.udfs_lawfulness.specs.declared.answers.Why.{Why}
use Rattle.udfs_overview.specs.Disagreements.{apart_lines}
use Rattle.udfs_overview.specs.Figures.{grouped}
use Rattle.udfs_overview.specs.Guarantees.{guarantee_line, why_place, why_words}
use Rattle.udfs_overview.specs.LeftOut.{left_out_line, left_out_types}
use Rattle.udfs_overview.specs.LostSummaries.{lost_lines}
use Rattle.udfs_overview.specs.MovedTags.{moved_line}
use Rattle.udfs_overview.specs.NodeWidenings.{wider_line}
use Rattle.udfs_overview.specs.Sentences.{sentence}
use Rattle.udfs_overview.specs.Summaries.{torn_folder}
use Rattle.udfs_overview.specs.SummaryTexts.{disc_line, files_line, others_line}
use Rattle.udfs_overview.specs.TornLists.{shown_path}
use Rattle.udfs_overview.specs.VolumeLines.{disc_size_text, label_text, revision_and_kinds, volume_line}
use Rattle.udfs_overview.specs.declared.summary_figures.Figures.{Figures}
use Rattle.udfs_overview.specs.declared.tallies.Tally.{Tally}
use Rattle.udfs_overview.specs.declared.verdicts.Verdict.{Verdict}
use Rattle.udfs_page.specs.Escapes.{html_lines, html_text}
use Rattle.udfs_page.specs.Markups.{markup, shown_name}

-- what the page is of
abbrev pub title_html : Answer Found → List ℕ
title_html (found f) = html_text (label_text f.layout.label)
title_html (holes blocks) = markup (codes "a disc that does not open")
title_html (faulty f) = markup (codes "a disc that does not open")

-- a line ends, and the next begins
abbrev pub next_line : List ℕ
next_line = markup (codes "</div>\n<div>")

-- a number, and what is counted
abbrev pub counted_html : ℕ → List ℕ → List ℕ
counted_html n words = grouped n ++ markup words

-- of `torn` torn directories, how many there are beside the first, if any
abbrev pub other_folders_html : ℕ → List ℕ
other_folders_html torn = if nat_le torn 1 then [] else markup (codes " and ") ++ counted_html (torn - 1) (codes " more")

-- where names may be missing: the first of `torn` torn directories, and how many more
abbrev pub missing_html : ℕ → List (List ℕ) → List ℕ
missing_html torn path = markup (codes ": names may be missing in ") ++ shown_name (shown_path path) ++ other_folders_html torn

-- where names may be missing, if anywhere
abbrev pub names_missing_html : ℕ → Option (List (List ℕ)) → List ℕ
names_missing_html torn None = []
names_missing_html torn (Some path) = missing_html torn path

-- how many directories are torn, if any
abbrev pub torn_folders_html : ℕ → List ℕ
torn_folders_html torn = if torn == 0 then [] else markup (codes "   ") ++ counted_html torn (codes " torn")

-- how many directories there are
abbrev pub folder_counts_html : Tally → List ℕ
folder_counts_html t = markup (codes "Folders    ") ++ counted_html t.whole_folders (codes " whole") ++ torn_folders_html t.torn_folders

-- the line of the folders, if there are any; the root is one
unfoldable pub folders_html : Tally → Option (List (List ℕ)) → List ℕ
folders_html t path =
    if t.whole_folders == 0 && t.torn_folders == 0 then []
    else folder_counts_html t ++ names_missing_html t.torn_folders path ++ next_line

-- the lines of what is found of a volume that opens
abbrev pub found_html : Tally → Option (List (List ℕ)) → List ℕ → List ℕ
found_html t path types =
    html_lines (files_line t) ++ folders_html t path ++ html_lines (others_line t) ++ html_lines (left_out_line types)

-- the first line of a volume that opens: its name, its revision, and its size
abbrev pub open_html : Found → ℕ → List ℕ
open_html f last =
    shown_name (label_text f.layout.label) ++ markup (codes "   ") ++ revision_and_kinds f.layout ++ markup (codes "   ") ++ disc_size_text last ++ next_line

-- the lines of a volume that opens
abbrev pub opened_html : Figures → Found → Report → List ℕ
opened_html f o r = open_html o f.last ++ html_lines (sentence f.tally (length r.reread)) ++ found_html f.tally (torn_folder r.nodes) (left_out_types r.nodes)

-- the lines of the volume: of one that does not open, why
abbrev pub volume_html : Figures → Answer Found → Report → List ℕ
volume_html f (found o) r = opened_html f o r
volume_html f (holes unread) r = html_lines (volume_line (holes unread) f.last)
volume_html f (faulty fault) r = html_lines (volume_line (faulty fault) f.last)

-- of a volume that is not lawful: why, and where
abbrev pub unlawful_html : Why → List ℕ
unlawful_html w = markup (codes "Guarantee  does not hold: ") ++ html_text (why_words w) ++ markup (codes ": ") ++ shown_name (why_place w) ++ next_line

-- whether the guarantee holds
abbrev pub guarantee_html : Lawfulness → List ℕ
guarantee_html answer.Lawful = html_lines (guarantee_line answer.Lawful)
guarantee_html (answer.Unlawful w) = unlawful_html w
guarantee_html (answer.Open blocks) = html_lines (guarantee_line (answer.Open blocks))

-- all lines
unfoldable pub overview_html : Figures → Report → Verdict → List ℕ
overview_html f r a =
    markup (codes "<div class=s>\n<div>") ++ (volume_html f r.volume r ++ html_lines (lost_lines a.lost)) ++ html_lines (apart_lines f.anchors f.copies_differ) ++ html_lines (moved_line f.moved ++ wider_line f.wider)
    ++ guarantee_html a.lawfulness ++ html_lines (disc_line f.disc) ++ markup (codes "</div>\n</div>\n")
