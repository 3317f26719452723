-- What was given to a command, as the commands that it names repeat it.
--     GivenWords                  the arguments by which a disc is read
--     given_now given             the same of the code
--     shell_word text             a text as one word of a shell, without a character that controls a terminal
--     inputs_words words          the inputs as arguments
--     disc_words words rules last where the disc ends, and by which rules it is read, as arguments
--     pass_number words known     the number of a pass that is none of the inputs
use Rattle.std.specs.Prelude.{ℕ, ◌+◌, ◌/◌, ◌%◌, ◌==◌, ◌&&◌, ◌||◌, nat_eq, nat_le, nat_lt, Bool, false, List, [], ◌∷◌, ◌++◌, Option, Some, None, codes, decimal, flat_map, map, option_map, if◌then◌else◌}
use Rattle.std.specs.List.{ends_with, list_all, list_any, starts_with}
use Rattle.udfs_volume.specs.declared.profiles.Profile.{Profile}
use Rattle.udfs_volume.specs.declared.profiles.Profile.TheVariants as profile
use Rattle.udfs_overview.specs.declared.repeating.Given.{Given}

-- the paths of the inputs that are files, those of the images and the mapfiles in turn, the size of the disc if it was given as one, and
-- whether what is of another disc is to be joined
pub record GivenWords : Type 0 where
  pub files : List (List ℕ)
  pub parts : List (List ℕ)
  pub size : Option (List ℕ)
  pub force : Bool

-- the same of the code
abbrev pub given_now : Given → GivenWords
given_now g = record { files = map (λ path. path.now) g.files.now; parts = map (λ path. path.now) g.parts.now; size = option_map (λ text. text.now) g.size; force = g.force }

-- ---- words of a shell

-- a byte that means nothing to a shell: `+` `,` `-` `.` `/` `:`, digits, `@`, letters and `_`
abbrev pub is_plain : ℕ → Bool
is_plain b = (nat_le 43 b && nat_le b 58) || (nat_le 64 b && nat_le b 90) || b == 95 || (nat_le 97 b && nat_le b 122)

-- a byte that a word in quotes may not have: a control, a `'` (39), or the first one of U+0080 to U+00BF, of U+0600 to U+063F or of U+2000 to
-- U+2FFF, among which are all characters that control a terminal, part lines or turn the direction of text
abbrev pub is_hidden : ℕ → Bool
is_hidden b = nat_lt b 32 || b == 39 || b == 127 || b == 194 || b == 216 || b == 226

-- a byte behind `$'`: a `'` and a `\` (92) after a `\`, another byte of ASCII that is no control as it is, and each other one in octal
abbrev pub escaped_byte : ℕ → List ℕ
escaped_byte b =
    if b == 39 || b == 92 then 92 ∷ b ∷ []
    else if nat_le 32 b && nat_lt b 127 then b ∷ []
    else 92 ∷ (48 + b / 64) ∷ (48 + b / 8 % 8) ∷ (48 + b % 8) ∷ []

-- the bytes behind `$'`
abbrev pub escaped_word : List ℕ → List ℕ
escaped_word text = codes "$'" ++ flat_map escaped_byte text ++ codes "'"

-- the bytes between two `'`
abbrev pub quoted_word : List ℕ → List ℕ
quoted_word text = codes "'" ++ text ++ codes "'"

-- a text that needs no quotes
abbrev pub is_bare : List ℕ → Bool
is_bare [] = false
is_bare (b ∷ bs) = list_all is_plain (b ∷ bs)

-- a text as one word
unfoldable pub shell_word : List ℕ → List ℕ
shell_word text = if list_any is_hidden text then escaped_word text else if is_bare text then text else quoted_word text

-- a path as one word that is no option
unfoldable pub shell_path : List ℕ → List ℕ
shell_path path = (if starts_with nat_eq path (codes "-") then codes "./" else []) ++ shell_word path

-- ---- arguments

-- a file, as an argument
abbrev pub file_word : List ℕ → List ℕ
file_word path = codes " " ++ shell_path path

-- the images and the mapfiles, each two as an option
unfoldable pub pair_words : List (List ℕ) → List ℕ
pair_words [] = []
pair_words (image ∷ []) = []
pair_words (image ∷ mapfile ∷ rest) = codes " --ddrescue" ++ file_word image ++ file_word mapfile ++ pair_words rest

-- all inputs
unfoldable pub inputs_words : GivenWords → List ℕ
inputs_words g = flat_map file_word g.files ++ pair_words g.parts

-- where the disc ends: its size as it was given, or its last block
abbrev pub end_words : Option (List ℕ) → ℕ → List ℕ
end_words None last = codes " --last " ++ decimal last
end_words (Some text) last = codes " --size " ++ shell_word text

-- the rules of a profile as arguments of a command: the strict ones need none
abbrev pub rules_words : Profile → List ℕ
rules_words profile.Strict = []
rules_words profile.Wide = codes " --profile wide"

-- what is of another disc is to be joined
abbrev pub force_words : Bool → List ℕ
force_words force = if force then codes " --force" else []

-- what says how the disc is read
unfoldable pub disc_words : GivenWords → Profile → ℕ → List ℕ
disc_words g rules last = end_words g.size last ++ rules_words rules ++ force_words g.force

-- ---- names of a pass

-- the names of a pass of this number
abbrev pub image_name : ℕ → List ℕ
image_name n = codes "p" ++ decimal n ++ codes ".img"

-- the name of the mapfile of a pass by its number
abbrev pub mapfile_name : ℕ → List ℕ
mapfile_name n = codes "p" ++ decimal n ++ codes ".map"

-- a path that ends with one of two names
unfoldable pub ends_in : List ℕ → List ℕ → List ℕ → Bool
ends_in image mapfile path = ends_with nat_eq path image || ends_with nat_eq path mapfile

-- a path that ends with one of those of the pass
abbrev pub is_of_pass : ℕ → List ℕ → Bool
is_of_pass n path = ends_in (image_name n) (mapfile_name n) path

-- an input has such a path
abbrev pub is_taken : GivenWords → ℕ → Bool
is_taken g n = list_any (is_of_pass n) g.files || list_any (is_of_pass n) g.parts

-- a number, or the first one after it of which no input is; one further for each of these paths at most
unfoldable pub past_taken : GivenWords → List (List ℕ) → ℕ → ℕ
past_taken g [] n = n
past_taken g (path ∷ paths) n = if is_taken g n then past_taken g paths (n + 1) else n

-- the number of a pass that is none of the inputs, from that of the blocks which are known on: each path takes one number at most, and as many are passed
-- over as there are paths
abbrev pub pass_number : GivenWords → ℕ → ℕ
pass_number g known = past_taken g g.parts (past_taken g g.files known)
