-- Lines of the summary on what is lost.
--     lost_lines tally       lost folders and lost files, and the command that writes what is whole of them; deleted entries
use Rattle.std.specs.Prelude.{ℕ, ◌==◌, ◌&&◌, List, [], ◌++◌, codes, if◌then◌else◌}
use Rattle.udfs_overview.specs.Figures.{size_text}
use Rattle.udfs_overview.specs.Sentences.{by_number, counted, part}
use Rattle.udfs_overview.specs.declared.lost_tallies.LostTally.{LostTally}

-- how many folders lost trees have, and how many whole files, and torn ones
unfoldable pub lost_counts : LostTally → List ℕ
lost_counts t =
    counted t.folders (by_number t.folders (codes " folder with ") (codes " folders with "))
    ++ counted t.whole_files (by_number t.whole_files (codes " file whole (") (codes " files whole (")) ++ size_text t.whole_bytes ++ codes ")"
    ++ part (codes ", ") t.torn_files (codes " torn") ++ codes "\n"

-- their line, if there are any
unfoldable pub lost_folders_line : LostTally → List ℕ
lost_folders_line t = if t.folders == 0 then [] else codes "Lost       " ++ lost_counts t

-- what stands before the files without a folder: the word of the line, if there is none before it
abbrev pub lost_margin : LostTally → List ℕ
lost_margin t = if t.folders == 0 then codes "Lost       " else codes "           "

-- the line of the lost files that no lost tree names, if there are any
abbrev pub lost_files_line : LostTally → List ℕ
lost_files_line t = part (lost_margin t) t.files (by_number t.files (codes " file without a folder\n") (codes " files without a folder\n"))

-- the command that writes what is whole of these, where it writes a file
abbrev pub lost_command_line : LostTally → List ℕ
lost_command_line t = if t.whole_files == 0 && t.with_data == 0 then [] else codes "           what is whole of these: extract --lost lost\n"

-- the lines of what is lost; where there is too much to follow, they say so
unfoldable pub lost_found_lines : LostTally → List ℕ
lost_found_lines t =
    if t.too_many then codes "Lost       too many folders and files to follow\n"
    else lost_folders_line t ++ lost_files_line t ++ lost_command_line t

-- and the line of the deleted entries, if there are any
unfoldable pub lost_lines : LostTally → List ℕ
lost_lines t = lost_found_lines t ++ part (codes "Deleted    ") t.deleted (by_number t.deleted (codes " entry\n") (codes " entries\n"))
