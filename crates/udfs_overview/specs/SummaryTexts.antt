-- Lines of the summary.
--     files_line tally, others_line tally         of a report's nodes
--     disc_line tally                             of the blocks
use Rattle.std.specs.Prelude.{ℕ, ◌==◌, List, [], ◌++◌, codes, if◌then◌else◌}
use Rattle.udfs_overview.specs.Figures.{size_text}
use Rattle.udfs_overview.specs.Sentences.{at_least, by_number, counted, part}
use Rattle.udfs_overview.specs.declared.tallies.Tally.{Tally}
use Rattle.udfs_overview.specs.declared.disc_tallies.DiscTally.{DiscTally}

-- how many files are whole, and their bytes
abbrev pub whole_files_text : Tally → List ℕ
whole_files_text t = counted t.whole_files (codes " whole (") ++ size_text t.whole_bytes ++ codes ")\n"

-- how many files are torn, and how many of their bytes are lost
unfoldable pub lost_files_text : Tally → List ℕ
lost_files_text t = counted t.torn_files (codes " torn (") ++ at_least t ++ size_text t.lost_bytes ++ codes " of " ++ size_text t.torn_bytes ++ codes " lost)\n"

-- the same, if there are any
unfoldable pub torn_files_text : Tally → List ℕ
torn_files_text t = if t.torn_files == 0 then [] else codes "           " ++ lost_files_text t

-- the lines of the files
unfoldable pub files_line : Tally → List ℕ
files_line t =
    codes "Files      " ++ whole_files_text t ++ torn_files_text t
    ++ part (codes "           ") t.disputed (codes " disputed: two readings differ, nothing is lost\n")
    ++ part (codes "           ") t.unread (by_number t.unread (codes " not yet known: a file or a whole folder\n") (codes " not yet known: files or whole folders\n"))

-- the lines of links and devices, of faults and of loops, if there are any; files of a type that is not written have their own
unfoldable pub others_line : Tally → List ℕ
others_line t =
    part (codes "Other      ") t.others (by_number t.others (codes " link or device\n") (codes " links and devices\n"))
    ++ part (codes "Faults     ") t.faulty (codes " with faults\n")
    ++ part (codes "Loops      ") t.loops (by_number t.loops (codes " folder that is inside itself\n") (codes " folders that are inside themselves\n"))

-- how many blocks are worth reading again, and in how many places
unfoldable pub needed_text : DiscTally → List ℕ
needed_text t =
    part (codes "           ") t.needed (by_number t.needed (codes " of these is needed, in ") (codes " of these are needed, in "))
    ++ part [] t.runs (by_number t.runs (codes " place\n") (codes " places\n"))

-- how many blocks are known, not known and in conflict
unfoldable pub known_text : DiscTally → List ℕ
known_text t = counted t.known (codes " known   ") ++ counted t.not_known (codes " not known   ") ++ counted t.conflicts (codes " in conflict\n")

-- the lines of the blocks, and how many of these are worth reading again
unfoldable pub disc_line : DiscTally → List ℕ
disc_line t = codes "Disc       " ++ known_text t ++ needed_text t
