-- What the arguments of a command ask for.
--     IsPicked words flag given absent picked     the one thing with the flag, and the other without it
--     IsTone words tone                           how much is said on standard error
--     input_texts words                           the paths of the inputs that are files, in order
--     asked_inputs words                          the inputs: all files, and then all pairs
--     stream_path path                            standard input for `-`, and else the path
--     asked_streams words                         the inputs of a command that takes `-` for standard input: all files, and then all pairs
--     are_two_streams name words                  a command of this name takes `-` for standard input, and it is there twice
--     list_texts words                            the paths of the lists of blocks, in order
--     out_text words                              the path of the output
--     is_mapped words, mapfile_text words         a mapfile is asked for, and its path
--     blocks_in size, number_of size              how many blocks a group of this size has, and their number as it is given
--     IsGoodGroup words                           a group that is given has a size, and a mapfile is asked for
--     IsGroupFault words fault                    what is wrong with it
--     IsGroup words group                         the size of the group that is given
--     folder_text words                           the path of the new folder
--     IsKnownProfile words                        the value of `--profile`, if one is given, names a profile
--     IsUnknownProfile words name                 this is the value of `--profile`, and it names no profile
--     IsProfile words profile                     the profile by its name, and the strict one where no name is given
--     only_path path                              the path without a `/` at its end; `/` is itself
--     only_texts words                            the paths of the nodes that are asked for; or else that of the root
--     IsOneEnd words                              the last block, or the size of a disc, or a mapfile to take it from, and not two of them
--     IsEndFault words fault                      what is wrong with how the end of the disc was given
--     EndsMap end bytes                           these bytes are a mapfile whose runs end here
--     MapsEndAt found end inputs                  all inputs are images whose mapfiles end here
--     IsLastOfSize size last                      the last block of a disc of this size; or 0, for which there is no report, where no disc has it
--     IsToldLast words last                       the last block as given, or else `IsLastOfSize` of the size given; or 0, where there is neither
use Rattle.std.specs.Prelude.{◌≡◌, ◌≢◌, ◌⊎◌, ◌↔◌, ℕ, ◌+◌, ◌*◌, ◌%◌, ◌^◌, ◌<◌, ◌==◌, ◌&&◌, ◌||◌, Bool, false, is_some, List, [], ◌∷◌, ◌++◌, All, Option, Some, None, IfSome, Ok, codes, map, option_map, unwrap_or, if◌then◌else◌, true}
use Rattle.std.specs.Str.{bytes_eq}
use Rattle.clap.specs.Matches.{matched_of, first_value, one_text, raw_values}
use Rattle.clap.specs.declared.parser.matches.Found.{Found}
use Rattle.udfs_volume.specs.declared.profiles.Profile.{Profile}
use Rattle.udfs_volume.specs.declared.profiles.Profile.TheVariants.{Strict, Wide}
use Rattle.std.specs.Str.Parse.{IsNumeral, digits_value, without_leading_plus}
use Rattle.udfs_rescue.specs.declared.run.Run.{Run}
use Rattle.udfs_rescue.specs.Lines.{outcome}
use Rattle.udfs_rescue.specs.Runs.{end_of_runs}
use Rattle.udfs_words.specs.declared.forms.Tone.{Tone}
use Rattle.udfs_words.specs.declared.group.GroupFault.{GroupFault}
use Rattle.udfs_words.specs.declared.group.GroupFault.TheVariants as grouping
use Rattle.udfs_words.specs.declared.group.GroupSize.{GroupSize}
use Rattle.udfs_words.specs.declared.group.GroupSize.TheVariants.{Two, Four, Eight, Sixteen, ThirtyTwo}
use Rattle.udfs_words.specs.declared.input_path.InputPath.{InputPath}
use Rattle.udfs_words.specs.declared.input_path.InputPath.TheVariants as path
use Rattle.udfs_words.specs.declared.last.EndFault.{EndFault}
use Rattle.udfs_words.specs.declared.last.EndFault.TheVariants as fault
use Rattle.udfs_words.specs.Sizes.{IsSize}

-- clap reads a flag as `true` or `false`, and a flag that it does not know as nothing
pub record IsPicked {A : Type 0} (words : Found) (flag : List ℕ) (given absent picked : A) : Type 0 where
  pub with_flag : one_text words flag ≡ Some (codes "true") → picked ≡ given
  pub without_flag : one_text words flag ≡ Some (codes "false") → picked ≡ absent
  pub unknown_flag : one_text words flag ≡ None → picked ≡ absent

-- how much is said, by its two flags
pub record IsTone (words : Found) (tone : Tone) : Type 0 where
  pub verbose : IsPicked words (codes "verbose") true false tone.verbose
  pub quiet : IsPicked words (codes "quiet") true false tone.quiet

-- all that was given as an input, each a path
abbrev pub input_texts : Found → List (List ℕ)
input_texts words = unwrap_or (option_map raw_values (matched_of words (codes "input"))) []

-- an input as it was asked for: the path of a file, or those of an image and its mapfile
pub data Asked : Type 0 where
  AskedFile : List ℕ → Asked
  AskedPair : List ℕ → List ℕ → Asked

-- an input path as plain bytes: those of a file, or those of an image and its mapfile
abbrev pub asked_for : InputPath → Asked
asked_for (path.File p) = AskedFile p.now
asked_for (path.Pair image map) = AskedPair image.now map.now

-- two values make a pair
abbrev pub pairs_of : List (List ℕ) → List Asked
pairs_of [] = []
pairs_of (image ∷ []) = []
pairs_of (image ∷ map ∷ rest) = AskedPair image map ∷ pairs_of rest

-- all that was given as images and mapfiles, in turn
abbrev pub pair_texts : Found → List (List ℕ)
pair_texts words = unwrap_or (option_map raw_values (matched_of words (codes "ddrescue"))) []

-- all inputs that the arguments give: first the files in order, then the pairs in order
abbrev pub asked_inputs : Found → List Asked
asked_inputs words = map AskedFile (input_texts words) ++ pairs_of (pair_texts words)

-- `-` is standard input
abbrev pub stream_path : List ℕ → List ℕ
stream_path path = if bytes_eq path (codes "-") then codes "/dev/stdin" else path

-- the same where `-` is standard input
abbrev pub asked_streams : Found → List Asked
asked_streams words = map AskedFile (map stream_path (input_texts words)) ++ pairs_of (pair_texts words)

-- all that was given as a list of blocks, each a path
abbrev pub list_texts : Found → List (List ℕ)
list_texts words = unwrap_or (option_map raw_values (matched_of words (codes "blocks"))) []

-- commands that take `-` for standard input
abbrev pub takes_streams : List ℕ → Bool
takes_streams name = bytes_eq name (codes "forget") || bytes_eq name (codes "image") || bytes_eq name (codes "list") || bytes_eq name (codes "page") || bytes_eq name (codes "summary")

-- one of these paths is `-`
abbrev pub names_stream : List (List ℕ) → Bool
names_stream [] = false
names_stream (path ∷ paths) = bytes_eq path (codes "-") || names_stream paths

-- two of these paths are
abbrev pub is_twice : List (List ℕ) → Bool
is_twice [] = false
is_twice (path ∷ paths) = if bytes_eq path (codes "-") then names_stream paths else is_twice paths

-- of the inputs and the lists together, in such a command
abbrev pub are_two_streams : List ℕ → Found → Bool
are_two_streams name words = takes_streams name && (is_twice (input_texts words) || is_twice (list_texts words) || (names_stream (input_texts words) && names_stream (list_texts words)))

-- what was given as the output, a path
abbrev pub out_text : Found → List ℕ
out_text words = unwrap_or (first_value words (codes "out")) []

-- a path was given for a mapfile of the blocks to read again
abbrev pub is_mapped : Found → Bool
is_mapped words = is_some (matched_of words (codes "mapfile"))

-- that path
abbrev pub mapfile_text : Found → List ℕ
mapfile_text words = unwrap_or (first_value words (codes "mapfile")) []

-- how many blocks a group of this size has
abbrev pub blocks_in : GroupSize → ℕ
blocks_in Two = 2
blocks_in Four = 4
blocks_in Eight = 8
blocks_in Sixteen = 16
blocks_in ThirtyTwo = 32

-- their number, as it is given
abbrev pub number_of : GroupSize → List ℕ
number_of Two = codes "2"
number_of Four = codes "4"
number_of Eight = codes "8"
number_of Sixteen = codes "16"
number_of ThirtyTwo = codes "32"

-- the number of a group that is given is that of one of these sizes, and a mapfile is asked for
abbrev pub IsGoodGroup : Found → Type 0
IsGoodGroup words = (number : List ℕ) → first_value words (codes "group") ≡ Some number → ((size : GroupSize) × (number ≡ number_of size)) × (is_mapped words ≡ true)

-- the number that is given is that of no size, or there is one and no mapfile
abbrev pub IsGroupFault : Found → GroupFault → Type 0
IsGroupFault words (grouping.Size number) = (first_value words (codes "group") ≡ Some number.now) × ((size : GroupSize) → number.now ≢ number_of size)
IsGroupFault words grouping.NoMapfile = (is_some (first_value words (codes "group")) ≡ true) × (is_mapped words ≡ false)

-- a group has the size whose number is given
abbrev pub IsGroup : Found → Option GroupSize → Type 0
IsGroup words group = (size : GroupSize) → (group ≡ Some size) ↔ (first_value words (codes "group") ≡ Some (number_of size))

-- what was given as the new folder, a path
abbrev pub folder_text : Found → List ℕ
folder_text words = unwrap_or (first_value words (codes "to")) []

-- a name of a profile that is given is `strict` or `wide`
abbrev pub IsKnownProfile : Found → Type 0
IsKnownProfile words = (name : List ℕ) → first_value words (codes "profile") ≡ Some name → (name ≡ codes "strict") ⊎ (name ≡ codes "wide")

-- this name of a profile is given, and it is neither `strict` nor `wide`
abbrev pub IsUnknownProfile : Found → List ℕ → Type 0
IsUnknownProfile words name = (first_value words (codes "profile") ≡ Some name) × (name ≢ codes "strict") × (name ≢ codes "wide")

-- the profile by its name, and the strict one where no name is given
pub record IsProfile (words : Found) (profile : Profile) : Type 0 where
  pub wide : first_value words (codes "profile") ≡ Some (codes "wide") → profile ≡ Wide
  pub strict : first_value words (codes "profile") ≡ Some (codes "strict") → profile ≡ Strict
  pub unnamed : first_value words (codes "profile") ≡ None → profile ≡ Strict

-- a text without a `/` (47) at its end
abbrev pub without_slash : List ℕ → List ℕ
without_slash [] = []
without_slash (c ∷ []) = if c == 47 then [] else c ∷ []
without_slash (c ∷ d ∷ text) = c ∷ without_slash (d ∷ text)

-- a folder's path may end with a `/`, which is no part of it; that of the root is `/`
abbrev pub only_path : List ℕ → List ℕ
only_path path = if bytes_eq path (codes "/") then path else without_slash path

-- the paths of the nodes that are asked for, in order; where no path is given, that of the root, which asks for all
abbrev pub only_texts : Found → List (List ℕ)
only_texts words = map only_path (unwrap_or (option_map raw_values (matched_of words (codes "only"))) (codes "/" ∷ []))

-- what was given as this is a number, in decimal
abbrev pub IsNumber : Found → List ℕ → ℕ → Type 0
IsNumber words id number = (text : List ℕ) × (one_text words id ≡ Some text) × (digits_value 10 (without_leading_plus text) ≡ number)

-- nothing was given as this that is a number of 32 bits, in decimal
abbrev pub IsNoNumber : Found → List ℕ → Type 0
IsNoNumber words id = (text : List ℕ) → one_text words id ≡ Some text → ¬ (IsNumeral 10 (without_leading_plus text) × (digits_value 10 (without_leading_plus text) < 2 ^ 32))

-- what was given as the size is this size
abbrev pub IsGivenSize : Found → ℕ → Type 0
IsGivenSize words size = (text : List ℕ) × (first_value words (codes "size") ≡ Some text) × IsSize text size

-- a size that was given is that of whole blocks, and no last block was given beside it
abbrev pub IsOneSize : Found → Type 0
IsOneSize words = (text : List ℕ) → first_value words (codes "size") ≡ Some text → (is_some (matched_of words (codes "last")) ≡ false) × ((size : ℕ) × IsSize text size × (size ≢ 0) × (size % 2048 ≡ 0))

-- beside a mapfile to take the size from, neither the last block nor the size was given
abbrev pub IsOneMap : Found → Type 0
IsOneMap words = is_some (matched_of words (codes "size-of")) ≡ true → (is_some (matched_of words (codes "last")) ≡ false) × (is_some (matched_of words (codes "size")) ≡ false)

-- at most one of them was given, and a size only of whole blocks
abbrev pub IsOneEnd : Found → Type 0
IsOneEnd words = IsOneSize words × IsOneMap words

-- two of them were given; or a size beside no last block, which the fault names: one that is that of no disc of whole blocks, or what is no size
abbrev pub IsEndFault : Found → EndFault → Type 0
IsEndFault words fault.Both = (is_some (first_value words (codes "size")) ≡ true) × (is_some (matched_of words (codes "last")) ≡ true)
IsEndFault words fault.LastAndMap = (is_some (matched_of words (codes "size-of")) ≡ true) × (is_some (matched_of words (codes "last")) ≡ true)
IsEndFault words fault.SizeAndMap = (is_some (matched_of words (codes "size-of")) ≡ true) × (is_some (matched_of words (codes "size")) ≡ true)
IsEndFault words (fault.Size text) = (first_value words (codes "size") ≡ Some text.now) × (is_some (matched_of words (codes "last")) ≡ false) × ((size : ℕ) × IsSize text.now size × ((size ≡ 0) ⊎ (size % 2048 ≢ 0)))
IsEndFault words (fault.NoSize text) = (first_value words (codes "size") ≡ Some text.now) × (is_some (matched_of words (codes "last")) ≡ false) × ((size : ℕ) → ¬ IsSize text.now size)

-- these bytes are a mapfile whose last run ends here
abbrev pub EndsMap : ℕ → List ℕ → Type 0
EndsMap end bytes = (runs : List Run) × (outcome bytes ≡ Ok runs) × (end_of_runs runs ≡ Some end)

-- an image whose mapfile, where what its path leads to is known, ends here
abbrev pub EndsAt : (List ℕ → Option (Option (List ℕ))) → ℕ → InputPath → Type 0
EndsAt found end (path.File p) = ⊥
EndsAt found end (path.Pair image map) = IfSome (found map.now) (λ held. IfSome held (EndsMap end))

-- all are such images
abbrev pub MapsEndAt : (List ℕ → Option (Option (List ℕ))) → ℕ → List InputPath → Type 0
MapsEndAt found end inputs = All (EndsAt found end) inputs

-- a disc of this size is of no whole blocks, or of more than have numbers of 32 bits
abbrev pub IsNoSize : ℕ → Type 0
IsNoSize size = (size ≡ 0) ⊎ (size % 2048 ≢ 0) ⊎ (2048 * 2 ^ 32 < size)

-- of 0 there is no report
abbrev pub IsLastOfSize : ℕ → ℕ → Type 0
IsLastOfSize size last = (size ≡ 2048 * (last + 1)) ⊎ ((last ≡ 0) × IsNoSize size)

-- what was given as the last block; or else the block with which a disc of the size that was given ends; or 0 where there is neither
abbrev pub IsToldLast : Found → ℕ → Type 0
IsToldLast words last = IsNumber words (codes "last") last ⊎ (IsNoNumber words (codes "last") × (((size : ℕ) × IsGivenSize words size × IsLastOfSize size last) ⊎ (((size : ℕ) → ¬ IsGivenSize words size) × (last ≡ 0))))
