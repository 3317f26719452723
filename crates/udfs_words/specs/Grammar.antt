-- The command line that the program takes, as clap has it: each argument by its name, and the commands with their arguments.
use Rattle.std.specs.Prelude.{ℕ, Bool, true, false, not, [], ◌∷◌, Some, codes, pos}
use Rattle.clap.specs.Words.{App, Rule, Text, new_app, new_rule, with_rule, with_subcommand}
use Rattle.clap.specs.declared.builder.ArgAction.TheVariants.{Append, Set, SetTrue}
use Rattle.clap.specs.declared.builder.ValueParser.TheVariants.{Signed}
use Rattle.udfs_words.specs.declared.words.Given.{Given}

-- a flag
abbrev pub flag_rule : Text → Rule
flag_rule name = record (new_rule name) { long = Some name; action = Some SetTrue }

-- a flag that has one letter too, by its code
abbrev pub letter_rule : Text → ℕ → Rule
letter_rule name letter = record (flag_rule name) { short = Some letter }

-- an argument with one value, which has to be given
abbrev pub value_rule : Text → Rule
value_rule name = record (new_rule name) { long = Some name; action = Some Set; value_names = 1; required = true }

-- an argument with one value, which may have to be given
abbrev pub option_rule : Text → Bool → Rule
option_rule name required = record (value_rule name) { required = required }

-- `--last N`, a number of 32 bits, which may have to be given
abbrev pub last_rule : Bool → Rule
last_rule needed = record (option_rule (codes "last") needed) { parser = Some (Signed (pos 0) (pos 4294967295)) }

-- `--size BYTES`
abbrev pub size_rule : Rule
size_rule = option_rule (codes "size") false

-- `--size-of MAPFILE`
abbrev pub size_of_rule : Rule
size_of_rule = option_rule (codes "size-of") false

-- `--mapfile FILE` or `--domain FILE`
abbrev pub mapfile_rule : Rule
mapfile_rule = record (option_rule (codes "mapfile") false) { aliases = codes "domain" ∷ [] }

-- `--group G`
abbrev pub group_rule : Rule
group_rule = option_rule (codes "group") false

-- `--profile PROFILE`
abbrev pub profile_rule : Rule
profile_rule = option_rule (codes "profile") false

-- `--out FILE`, `--output FILE` or `-o FILE`
abbrev pub out_rule : Rule
out_rule = record (value_rule (codes "out")) { short = Some 111; aliases = codes "output" ∷ [] }

-- `--ddrescue IMAGE MAPFILE`, any number of times
abbrev pub pairs_rule : Rule
pairs_rule = record (new_rule (codes "ddrescue")) { long = Some (codes "ddrescue"); value_names = 2; action = Some Append; range = Some (record { start_inclusive = 2; end_inclusive = 2 }) }

-- `IN...`, of which there is one at least where no pair is
abbrev pub inputs_rule : Bool → Rule
inputs_rule pairs = record (new_rule (codes "input")) { value_names = 1; action = Some Append; required = not pairs; range = Some (record { start_inclusive = 1; end_inclusive = 18446744073709551615 }) }

-- `--blocks LIST`, any number of times, and once at least where no conflicts are to be forgotten
abbrev pub blocks_rule : Bool → Rule
blocks_rule conflicts = record (new_rule (codes "blocks")) { long = Some (codes "blocks"); value_names = 1; action = Some Append; required = not conflicts }

-- what every command takes: its inputs, and how much it says
abbrev pub with_inputs : App → Bool → App
with_inputs command pairs = with_rule (with_rule (with_rule (with_rule command (letter_rule (codes "verbose") 118)) (letter_rule (codes "quiet") 113)) pairs_rule) (inputs_rule pairs)

-- `merge [--v1] [--force] --out FILE IN...`
abbrev pub merge_app : Bool → App
merge_app pairs = with_inputs (with_rule (with_rule (with_rule (new_app (codes "merge")) out_rule) (flag_rule (codes "v1"))) (flag_rule (codes "force"))) pairs

-- the arguments for where the disc ends
abbrev pub with_end : App → Bool → App
with_end command needed = with_rule (with_rule (with_rule command (last_rule needed)) size_rule) size_of_rule

-- a command of this name with arguments for where the disc ends
abbrev pub with_last : Text → Bool → App
with_last name needed = with_end (new_app name) needed

-- a command of this name with arguments for where the disc ends, and by which rules it is read
abbrev pub with_profile : Text → Bool → App
with_profile name size = with_rule (with_last name size) profile_rule

-- `report (--last N | --size BYTES | --size-of MAPFILE) [--profile PROFILE] [--json] [--force] IN...`
abbrev pub report_app : Given → App
report_app given = with_inputs (with_rule (with_rule (with_profile (codes "report") given.needs_last) (flag_rule (codes "json"))) (flag_rule (codes "force"))) given.pairs

-- `--only PATH`, any number of times
abbrev pub only_rule : Rule
only_rule = record (new_rule (codes "only")) { long = Some (codes "only"); value_names = 1; action = Some Append }

-- `reread (--last N | --size BYTES | --size-of MAPFILE) [--profile PROFILE] [--only PATH]... [--mapfile FILE] [--group G] [--no-witnesses] [--force] IN...`
abbrev pub reread_app : Given → App
reread_app given = with_inputs (with_rule (with_rule (with_rule (with_rule (with_rule (with_profile (codes "reread") given.needs_last) only_rule) mapfile_rule) group_rule) (flag_rule (codes "no-witnesses"))) (flag_rule (codes "force"))) given.pairs

-- `--manifest FILE`
abbrev pub manifest_rule : Rule
manifest_rule = option_rule (codes "manifest") false

-- `--title TEXT`
abbrev pub title_rule : Rule
title_rule = option_rule (codes "title") false

-- `--unnamed DIR`
abbrev pub unnamed_rule : Rule
unnamed_rule = option_rule (codes "unnamed") false

-- `--lost DIR`
abbrev pub lost_rule : Rule
lost_rule = option_rule (codes "lost") false

-- which files `extract` writes, and where: `--to DIR [--fill] [--only PATH]... [--manifest FILE]`
abbrev pub with_files : App → App
with_files command = with_rule (with_rule (with_rule (with_rule command (value_rule (codes "to"))) (flag_rule (codes "fill"))) only_rule) manifest_rule

-- `extract (--last N | --size BYTES | --size-of MAPFILE) [--profile PROFILE] --to DIR [--fill] [--only PATH]... [--manifest FILE] [--unnamed DIR] [--lost DIR] [--deleted] [--times] [--short-names] [--force] IN...`
abbrev pub extract_app : Given → App
extract_app given = with_inputs (with_rule (with_rule (with_rule (with_rule (with_rule (with_rule (with_files (with_profile (codes "extract") given.needs_last)) unnamed_rule) lost_rule) (flag_rule (codes "deleted"))) (flag_rule (codes "times"))) (flag_rule (codes "short-names"))) (flag_rule (codes "force"))) given.pairs

-- `forget --out FILE (--conflicts | --blocks LIST)... [--force] IN...`
abbrev pub forget_app : Given → App
forget_app given = with_inputs (with_rule (with_rule (with_rule (with_rule (new_app (codes "forget")) out_rule) (flag_rule (codes "conflicts"))) (blocks_rule given.conflicts)) (flag_rule (codes "force"))) given.pairs

-- `--null` or `-0`
abbrev pub null_rule : Rule
null_rule = letter_rule (codes "null") 48

-- which lines `list` prints, and in which form: `[--torn] [--null] [--paths] [--header] [--json]`
abbrev pub with_shape : App → App
with_shape command = with_rule (with_rule (with_rule (with_rule (with_rule command (flag_rule (codes "torn"))) null_rule) (flag_rule (codes "paths"))) (flag_rule (codes "header"))) (flag_rule (codes "json"))

-- `list [--torn] [--null] [--paths] [--header] [--json] [--lost] [--deleted] [--force] (--last N | --size BYTES | --size-of MAPFILE) [--profile PROFILE] IN...`
abbrev pub list_app : Given → App
list_app given = with_inputs (with_rule (with_rule (with_rule (with_shape (with_profile (codes "list") given.needs_last)) (flag_rule (codes "lost"))) (flag_rule (codes "deleted"))) (flag_rule (codes "force"))) given.pairs

-- `summary (--last N | --size BYTES | --size-of MAPFILE) [--profile PROFILE] [--json] [--force] IN...`
abbrev pub summary_app : Given → App
summary_app given = with_inputs (with_rule (with_rule (with_profile (codes "summary") given.needs_last) (flag_rule (codes "json"))) (flag_rule (codes "force"))) given.pairs

-- `image --out IMAGE --mapfile MAPFILE [--force] (--last N | --size BYTES | --size-of MAPFILE) IN...`
abbrev pub image_app : Given → App
image_app given = with_inputs (with_rule (with_rule (with_rule (with_last (codes "image") given.needs_last) out_rule) (value_rule (codes "mapfile"))) (flag_rule (codes "force"))) given.pairs

-- `page --out FILE (--last N | --size BYTES | --size-of MAPFILE) [--profile PROFILE] [--title TEXT] [--force] IN...`
abbrev pub page_app : Given → App
page_app given = with_inputs (with_rule (with_rule (with_rule (with_profile (codes "page") given.needs_last) out_rule) title_rule) (flag_rule (codes "force"))) given.pairs

-- the program before its commands: one of them has to be named, and there is `--version`
abbrev pub program : App
program = record (new_app (codes "udfsalvage")) { top = record (new_app (codes "udfsalvage")).top { has_version = true; subcommand_required = true } }

-- the program, by what is found among the arguments before they are parsed
abbrev pub program_app : Given → App
program_app given = with_subcommand (with_subcommand (with_subcommand (with_subcommand (with_subcommand (with_subcommand (with_subcommand (with_subcommand (with_subcommand program (merge_app given.pairs).top) (report_app given).top) (reread_app given).top) (extract_app given).top) (forget_app given).top) (list_app given).top) (summary_app given).top) (image_app given).top) (page_app given).top
