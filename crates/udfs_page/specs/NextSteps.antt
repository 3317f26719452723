-- What to do next, as commands with the arguments that were given.
--     Called                              how the page is called, and where it is written
--     page_command words called rules last   the command that makes such a page
--     next_html words called figures report   what to do next
use Rattle.std.specs.Prelude.{ℕ, ◌==◌, Bool, List, [], ◌∷◌, ◌++◌, Option, Some, None, codes, cond, if◌then◌else◌}
use Rattle.udfs_volume.specs.Answers.{Answer, found, holes, faulty}
use Rattle.udfs_volume.specs.declared.profiles.Profile.{Profile}
use Rattle.udfs_volume.specs.declared.profiles.Profile.TheVariants as profile
use Rattle.udfs_salvage.specs.Found.{Found}
use Rattle.udfs_salvage.specs.Reports.{Report}
use Rattle.udfs_overview.specs.LeftOut.{wide_writes}
use Rattle.udfs_overview.specs.NextCommands.{cleaned, extract_command, inputs_end, joined, needed_steps}
use Rattle.udfs_overview.specs.Repeating.{GivenWords, disc_words, pass_number, shell_path, shell_word}
use Rattle.udfs_overview.specs.Widenings.{widening_text}
use Rattle.udfs_overview.specs.declared.summary_figures.Figures.{Figures}
use Rattle.udfs_overview.specs.declared.widenings.Widening.{Widening}
use Rattle.udfs_overview.specs.declared.widenings.Widening.TheVariants as wide
use Rattle.udfs_page.specs.Escapes.{html_text}
use Rattle.udfs_page.specs.Markups.{markup}
use Rattle.udfs_page.specs.Naming.{CalledWords}

-- the title as an argument, if there is one
unfoldable pub title_words : Option (List ℕ) → List ℕ
title_words None = []
title_words (Some title) = markup (codes " --title ") ++ shell_word title

-- the command that makes such a page: how the disc is read, and how the page is called
unfoldable pub page_front : GivenWords → CalledWords → Profile → ℕ → List ℕ
page_front g called rules last = markup (codes "udfsalvage page") ++ disc_words g rules last ++ title_words called.title

-- where it is written, and the inputs
unfoldable pub page_end : GivenWords → CalledWords → List ℕ
page_end g called = markup (codes " --out ") ++ shell_path called.out ++ inputs_end g

-- both
unfoldable pub page_command : GivenWords → CalledWords → Profile → ℕ → List ℕ
page_command g called rules last = page_front g called rules last ++ page_end g called

-- commands, in a box
unfoldable pub commands_html : List ℕ → List ℕ
commands_html commands = markup (codes "<pre>") ++ html_text commands ++ markup (codes "</pre>\n")

-- what is said of blocks that are needed, of which so many are in conflict
abbrev pub needed_words : ℕ → List ℕ
needed_words disputed =
    if disputed == 0 then codes "<p>Some blocks that are not known are needed. Read only these again, with this drive or another, and join the pass with what was read:</p>\n"
    else codes "<p>Some blocks in conflict are needed: two readings of each differ. Forget them first, then read the needed blocks again, with this drive or another, and join the pass with the rest:</p>\n"

-- the arguments where the table with the new pass is
abbrev pub renewed : GivenWords → ℕ → GivenWords
renewed g disputed = if disputed == 0 then joined g else joined (cleaned g)

-- what to read again, of which `disputed` blocks are in conflict, and the page of the table with the new pass
unfoldable pub needed_html : GivenWords → CalledWords → Profile → ℕ → ℕ → ℕ → List ℕ
needed_html g called rules last n disputed =
    markup (needed_words disputed) ++ commands_html (needed_steps [] [] g rules last n disputed)
    ++ markup (codes "<p>Then make the page again, and do what it says:</p>\n") ++ commands_html (page_command (renewed g disputed) called rules last)

-- the page by the wide rules, of a volume that these read
unfoldable pub wide_html : GivenWords → CalledWords → ℕ → Widening → List ℕ
wide_html g called last other =
    markup (codes "<p>") ++ html_text (widening_text other) ++ markup (codes ".</p>\n") ++ commands_html (page_command g called profile.Wide last)

-- of a volume with a fault
abbrev pub fault_html : GivenWords → CalledWords → ℕ → Widening → List ℕ
fault_html g called last wide.No = markup (codes "<p>The volume does not open, and reading blocks again will not help: the manual of udfsalvage explains this fault.</p>\n")
fault_html g called last wide.Wants = wide_html g called last wide.Wants
fault_html g called last (wide.Reads revision) = wide_html g called last (wide.Reads revision)

-- that all is whole, or that no block is worth reading again
abbrev pub whole_words : Bool → List ℕ
whole_words whole = if whole then codes "<p>All is whole.</p>\n" else codes "<p>No block is worth reading again.</p>\n"

-- that no block is worth reading again
abbrev pub no_need_html : GivenWords → CalledWords → Figures → Answer Found → List ℕ
no_need_html g called f (found o) = markup (whole_words f.all_whole)
no_need_html g called f (holes blocks) = markup (codes "<p>The volume does not open, and no block is worth reading again.</p>\n")
no_need_html g called f (faulty fault) = fault_html g called f.last f.widening

-- what to read again, if anything
abbrev pub again_html : GivenWords → CalledWords → Figures → Answer Found → List ℕ → List ℕ
again_html g called f volume [] = no_need_html g called f volume
again_html g called f volume (n ∷ ns) = needed_html g called f.profile f.last (pass_number g f.disc.known) f.disc.needed_in_conflict

-- the command that writes the files
unfoldable pub extract_html : GivenWords → Profile → ℕ → List ℕ
extract_html g rules last = markup (codes "<p>The whole files can be written out at any time:</p>\n") ++ commands_html (extract_command g rules last)

-- there are files only of a volume that opens
abbrev pub files_steps : GivenWords → Answer Found → Profile → ℕ → List ℕ
files_steps g (found f) rules last = extract_html g rules last
files_steps g (holes blocks) rules last = []
files_steps g (faulty f) rules last = []

-- the page by the wide rules, where these write files that the strict ones leave out
unfoldable pub left_out_html : GivenWords → CalledWords → ℕ → List ℕ
left_out_html g called last =
    markup (codes "<p>The wide rules also write files that are left out here. To make the page with them:</p>\n") ++ commands_html (page_command g called profile.Wide last)

-- what to read again, if anything, and the command that writes the files
unfoldable pub steps_html : GivenWords → CalledWords → Figures → Answer Found → List ℕ → List ℕ
steps_html g called f volume reread = again_html g called f volume reread ++ files_steps g volume f.profile f.last

-- what to do by these rules; or by the wide ones, where they write files that are left out
unfoldable pub advice_html : GivenWords → CalledWords → Figures → Report → List ℕ
advice_html g called f r = cond (wide_writes r.nodes) (left_out_html g called f.last) (steps_html g called f r.volume r.reread)

-- what to do next
unfoldable pub next_html : GivenWords → CalledWords → Figures → Report → List ℕ
next_html g called f r = markup (codes "<h2>What to do next</h2>\n") ++ advice_html g called f r
