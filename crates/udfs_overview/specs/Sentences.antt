-- The sentence on top of a summary: how many files are complete, how many are not, and how many blocks are worth reading again.
--     at_least tally             what stands before a figure that counts what cannot be known
--     sentence tally needed      the sentence, of so many blocks that are worth reading again
use Rattle.std.specs.Prelude.{ℕ, ◌==◌, ◌&&◌, List, [], ◌++◌, codes, if◌then◌else◌}
use Rattle.udfs_overview.specs.Figures.{grouped}
use Rattle.udfs_overview.specs.declared.tallies.Tally.{Tally}

-- a number, and what is counted
abbrev pub counted : ℕ → List ℕ → List ℕ
counted n words = grouped n ++ words

-- the same behind other words, left out where the number is 0
unfoldable pub part : List ℕ → ℕ → List ℕ → List ℕ
part before n words = if n == 0 then [] else before ++ counted n words

-- words for one, or for several
abbrev pub by_number : ℕ → List ℕ → List ℕ → List ℕ
by_number n one several = if n == 1 then one else several

-- what is not read may be a whole folder, and a folder that is torn may lack names: what they hold is not counted
abbrev pub at_least : Tally → List ℕ
at_least t = if t.unread == 0 && t.torn_folders == 0 then [] else codes "at least "

-- the files that are complete
abbrev pub complete_text : ℕ → List ℕ
complete_text n = if n == 0 then codes "No file is complete" else counted n (by_number n (codes " file is complete") (codes " files are complete"))

-- the files, and the entries of which nothing but the name is known
unfoldable pub files_part : Tally → List ℕ
files_part t = complete_text t.whole_files ++ part (codes ", ") t.torn_files (codes " damaged") ++ part (codes ", ") t.unread (codes " could not be looked at")

-- the files of which readings differ, what has faults, the files of a type that is not written, and the folders that are torn
unfoldable pub folders_part : Tally → List ℕ
folders_part t =
    part (codes ",\n") t.disputed (codes " disputed: two readings differ") ++ part (codes ",\n") t.faulty (codes " with faults") ++ part (codes ",\n") t.left_out (codes " of a type that is not written")
    ++ part (codes ",\nnames may be missing in ") t.torn_folders (by_number t.torn_folders (codes " folder") (codes " folders"))

-- how many blocks are worth reading again
unfoldable pub worth_text : ℕ → List ℕ
worth_text needed = counted needed (by_number needed (codes " block is worth reading again") (codes " blocks are worth reading again"))

-- the blocks that are worth reading again, if there are any
unfoldable pub blocks_part : Tally → ℕ → List ℕ
blocks_part t needed = if needed == 0 then [] else codes ";\n" ++ at_least t ++ worth_text needed

-- the sentence
unfoldable pub sentence : Tally → ℕ → List ℕ
sentence t needed = files_part t ++ folders_part t ++ blocks_part t needed ++ codes "\n"
