-- The commands that come next, each on a line, with the arguments that were given.
--     needed_steps front indent words rules last n disputed   where blocks are worth reading again: what is wanted, a pass, and the table with it
--     extract_command words rules last                        what writes the files
--     summary_command words rules last                        the summary by other rules
use Rattle.std.specs.Prelude.{ℕ, ◌==◌, nat_eq, Bool, false, List, [], ◌∷◌, ◌++◌, codes, if◌then◌else◌}
use Rattle.std.specs.List.{ends_with}
use Rattle.udfs_volume.specs.declared.profiles.Profile.{Profile}
use Rattle.udfs_overview.specs.Repeating.{GivenWords, disc_words, force_words, image_name, inputs_words, mapfile_name, shell_path}

-- the path of a table file, by its ending
abbrev pub is_table : List ℕ → Bool
is_table path = ends_with nat_eq path (codes ".tab")

-- the table file that takes the new pass too: the first input that has the ending of one, or else a new one
abbrev pub table_path : List (List ℕ) → List ℕ
table_path [] = codes "disc.tab"
table_path (path ∷ paths) = if is_table path then path else table_path paths

-- the names of the image and of the mapfile of a pass
unfoldable pub pass_words : ℕ → List ℕ
pass_words n = image_name n ++ codes " " ++ mapfile_name n

-- the inputs at the end of a command
unfoldable pub inputs_end : GivenWords → List ℕ
inputs_end g = inputs_words g ++ codes "\n"

-- the blocks that are worth reading again, in a domain mapfile that asks for whole groups of 16: a DVD drive reads these as one
unfoldable pub reread_command : GivenWords → Profile → ℕ → List ℕ
reread_command g rules last = codes "udfsalvage reread" ++ disc_words g rules last ++ codes " --group 16 --mapfile want.map" ++ inputs_end g

-- a pass over them
unfoldable pub ddrescue_command : ℕ → List ℕ
ddrescue_command n = codes "ddrescue -d -r3 -b2048 -m want.map /dev/sr0 " ++ pass_words n ++ codes "\n"

-- what begins the next command, up to its inputs
unfoldable pub merge_front : GivenWords → List ℕ
merge_front g = codes "udfsalvage merge --out " ++ shell_path (table_path g.files) ++ force_words g.force

-- and the pass at its end
unfoldable pub pass_end : ℕ → List ℕ
pass_end n = codes " --ddrescue " ++ pass_words n ++ codes "\n"

-- the table of the inputs and this pass
unfoldable pub merge_command : GivenWords → ℕ → List ℕ
merge_command g n = merge_front g ++ inputs_words g ++ pass_end n

-- the table of the inputs without the blocks in conflict
unfoldable pub forget_command : GivenWords → List ℕ
forget_command g = codes "udfsalvage forget --conflicts --out clean.tab" ++ force_words g.force ++ inputs_end g

-- what writes the whole files
unfoldable pub extract_command : GivenWords → Profile → ℕ → List ℕ
extract_command g rules last = codes "udfsalvage extract" ++ disc_words g rules last ++ codes " --to files" ++ inputs_end g

-- the summary by the rules of a profile
unfoldable pub summary_command : GivenWords → Profile → ℕ → List ℕ
summary_command g rules last = codes "udfsalvage summary" ++ disc_words g rules last ++ inputs_end g

-- the same arguments where that table is the only input
abbrev pub cleaned : GivenWords → GivenWords
cleaned g = record { files = codes "clean.tab" ∷ []; parts = []; size = g.size; force = false }

-- the same where the table with the new pass is
abbrev pub joined : GivenWords → GivenWords
joined g = record { files = table_path g.files ∷ []; parts = []; size = g.size; force = false }

-- a pass of this number, and the table with it
unfoldable pub pass_steps : List ℕ → GivenWords → ℕ → List ℕ
pass_steps indent g n = indent ++ ddrescue_command n ++ indent ++ merge_command g n

-- what is wanted, and the pass
unfoldable pub reread_steps : List ℕ → List ℕ → GivenWords → Profile → ℕ → ℕ → List ℕ
reread_steps front indent g rules last n = front ++ reread_command g rules last ++ pass_steps indent g n

-- blocks in conflict are forgotten first, since reading again does not end a conflict
unfoldable pub forget_steps : List ℕ → List ℕ → GivenWords → Profile → ℕ → ℕ → List ℕ
forget_steps front indent g rules last n = front ++ forget_command g ++ reread_steps indent indent (cleaned g) rules last n

-- where so many blocks in conflict are among those that are worth reading again
abbrev pub needed_steps : List ℕ → List ℕ → GivenWords → Profile → ℕ → ℕ → ℕ → List ℕ
needed_steps front indent g rules last n disputed = if disputed == 0 then reread_steps front indent g rules last n else forget_steps front indent g rules last n
