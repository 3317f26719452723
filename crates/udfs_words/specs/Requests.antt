-- What the arguments of a command ask for, as a value.
--     texts paths                      some paths, as text
--     streamed_texts words             the paths of the inputs that are files, where `-` is standard input
--     optional_text words id           what was given as this, if anything was
--     given_texts words id             all that was given as this
--     printed_path words               the path of the output, where `-` is standard output
--     AreInputs given pairs inputs     the inputs are these files, and these images with their mapfiles
--     IsLastSource words last          where the disc ends
--     IsVolumeSource given words volume     the volume to look into, of which these files were read
--     IsMerge .. IsExtract             what each command is asked to do
--     IsRequest name words request     the arguments of the command of this name ask for this
--     Reads name words request         the same, and no fault is in them that clap does not see
--     IsUsageFault name words fault    why the arguments of the command of this name are no request
--     Asked line request               the command line asks for this
use Rattle.std.specs.Prelude.{◌≡◌, ◌⊎◌, ◌||◌, ◌++◌, ℕ, true, false, List, Option, None, Some, [], codes, is_some, map, option_map, unwrap_or, if◌then◌else◌}
use Rattle.std.specs.Str.{bytes_eq}
use Rattle.std.specs.Borrow.{Bor}
use Rattle.clap.specs.Matches.{first_value, matched_of, raw_values}
use Rattle.clap.specs.declared.parser.matches.Found.{Found}
use Rattle.udfs_words.specs.Asking.{IsEndFault, IsGoodGroup, IsGroup, IsGroupFault, IsKnownProfile, IsOneEnd, IsPicked, IsProfile, IsToldLast, IsUnknownProfile, are_two_streams, asked_for, folder_text, input_texts, list_texts, mapfile_text, only_path, only_texts, out_text, pair_texts, pairs_of, stream_path}
use Rattle.udfs_words.specs.Asking.Asked.{AskedFile}
use Rattle.udfs_words.specs.Obeying.{IsAsked}
use Rattle.udfs_words.specs.declared.forms.Form.TheVariants.{Json, Text}
use Rattle.udfs_words.specs.declared.forms.Version.TheVariants.{One, Two}
use Rattle.udfs_words.specs.declared.request.Inputs.{Inputs}
use Rattle.udfs_words.specs.declared.request.LastSource.{LastSource}
use Rattle.udfs_words.specs.declared.request.LastSource.TheVariants.{Block, OfMap, OfMaps}
use Rattle.udfs_words.specs.declared.request.VolumeSource.{VolumeSource}
use Rattle.udfs_words.specs.declared.request.MergeRequest.{MergeRequest}
use Rattle.udfs_words.specs.declared.request.ForgetRequest.{ForgetRequest}
use Rattle.udfs_words.specs.declared.request.ImageRequest.{ImageRequest}
use Rattle.udfs_words.specs.declared.request.ReportRequest.{ReportRequest}
use Rattle.udfs_words.specs.declared.request.RereadRequest.{RereadRequest}
use Rattle.udfs_words.specs.declared.request.ListRequest.{ListRequest}
use Rattle.udfs_words.specs.declared.request.SummaryRequest.{SummaryRequest}
use Rattle.udfs_words.specs.declared.request.PageRequest.{PageRequest}
use Rattle.udfs_words.specs.declared.request.ExtractRequest.{ExtractRequest}
use Rattle.udfs_words.specs.declared.request.Request.{Request}
use Rattle.udfs_words.specs.declared.request.Request.TheVariants as request
use Rattle.udfs_words.specs.declared.reading.UsageFault.{UsageFault}
use Rattle.udfs_words.specs.declared.reading.UsageFault.TheVariants as fault

-- ---- paths

-- some paths, as text
abbrev pub texts : List (Bor (List ℕ)) → List (List ℕ)
texts paths = map (λ path. path.now) paths

-- all that was given as an input, where `-` is standard input
abbrev pub streamed_texts : Found → List (List ℕ)
streamed_texts words = map stream_path (input_texts words)

-- what was given as this, if anything was
abbrev pub optional_text : Found → List ℕ → Option (List ℕ)
optional_text words id = option_map (λ _. unwrap_or (first_value words id) []) (matched_of words id)

-- all that was given as this; nothing, where it was not given
abbrev pub given_texts : Found → List ℕ → List (List ℕ)
given_texts words id = unwrap_or (option_map raw_values (matched_of words id)) []

-- the path of the output, where `-` is standard output
abbrev pub printed_path : Found → List ℕ
printed_path words = if bytes_eq (out_text words) (codes "-") then codes "/dev/stdout" else out_text words

-- the inputs are these files, and then the pairs that these paths make; beside them stand the paths
pub record AreInputs (given pairs : List (List ℕ)) (inputs : Inputs) : Type 0 where
  pub paths : map asked_for inputs.paths.items ≡ map AskedFile given ++ pairs_of pairs
  pub files : texts inputs.files.items ≡ given
  pub parts : texts inputs.parts.items ≡ pairs

-- ---- the volume

-- with the last block that was given, or with that of the size; or where a mapfile ends that was given; or none of them was given
abbrev pub IsLastSource : Found → LastSource → Type 0
IsLastSource words (Block last) = ((is_some (matched_of words (codes "last")) || is_some (matched_of words (codes "size"))) ≡ true) × IsToldLast words last
IsLastSource words (OfMap map) = (is_some (matched_of words (codes "last")) ≡ false) × (is_some (matched_of words (codes "size")) ≡ false) × (optional_text words (codes "size-of") ≡ Some map.now)
IsLastSource words OfMaps = (is_some (matched_of words (codes "last")) ≡ false) × (is_some (matched_of words (codes "size")) ≡ false) × (optional_text words (codes "size-of") ≡ None)

-- what was read of the disc, where it ends, the rules, and whether what is of another disc is to be joined
pub record IsVolumeSource (given : List (List ℕ)) (words : Found) (volume : VolumeSource) : Type 0 where
  pub inputs : AreInputs given (pair_texts words) volume.inputs
  pub last : IsLastSource words volume.last
  pub profile : IsProfile words volume.profile
  pub force : IsPicked words (codes "force") true false volume.force

-- ---- the commands

-- the arguments of `merge`
pub record IsMerge (words : Found) (request : MergeRequest) : Type 0 where
  pub inputs : AreInputs (input_texts words) (pair_texts words) request.inputs
  pub version : IsPicked words (codes "v1") One Two request.version
  pub out : request.out.now ≡ out_text words
  pub force : IsPicked words (codes "force") true false request.force

-- the arguments of `forget`
pub record IsForget (words : Found) (request : ForgetRequest) : Type 0 where
  pub inputs : AreInputs (streamed_texts words) (pair_texts words) request.inputs
  pub conflicts : IsPicked words (codes "conflicts") true false request.conflicts
  pub lists : texts request.lists.items ≡ map stream_path (list_texts words)
  pub out : request.out.now ≡ printed_path words
  pub force : IsPicked words (codes "force") true false request.force

-- the arguments of `image`
pub record IsImage (words : Found) (request : ImageRequest) : Type 0 where
  pub inputs : AreInputs (streamed_texts words) (pair_texts words) request.inputs
  pub last : IsLastSource words request.last
  pub image : request.image.now ≡ out_text words
  pub mapfile : request.mapfile.now ≡ mapfile_text words
  pub force : IsPicked words (codes "force") true false request.force

-- the arguments of `report`
pub record IsReport (words : Found) (request : ReportRequest) : Type 0 where
  pub volume : IsVolumeSource (input_texts words) words request.volume
  pub form : IsPicked words (codes "json") Json Text request.form

-- the arguments of `reread`; where no path is given of what is wanted, there is none
pub record IsReread (words : Found) (request : RereadRequest) : Type 0 where
  pub volume : IsVolumeSource (input_texts words) words request.volume
  pub only : texts request.only.items ≡ map only_path (given_texts words (codes "only"))
  pub mapfile : option_map (λ path. path.now) request.mapfile ≡ optional_text words (codes "mapfile")
  pub group : IsGroup words request.group
  pub witnesses : IsPicked words (codes "no-witnesses") false true request.witnesses

-- the arguments of `list`
pub record IsList (words : Found) (request : ListRequest) : Type 0 where
  pub volume : IsVolumeSource (streamed_texts words) words request.volume
  pub torn : IsPicked words (codes "torn") true false request.torn
  pub null : IsPicked words (codes "null") true false request.null
  pub paths : IsPicked words (codes "paths") true false request.paths
  pub header : IsPicked words (codes "header") true false request.header
  pub json : IsPicked words (codes "json") true false request.json
  pub lost : IsPicked words (codes "lost") true false request.lost
  pub deleted : IsPicked words (codes "deleted") true false request.deleted

-- the arguments of `summary`
pub record IsSummary (words : Found) (request : SummaryRequest) : Type 0 where
  pub volume : IsVolumeSource (streamed_texts words) words request.volume
  pub size : option_map (λ text. text.now) request.size ≡ optional_text words (codes "size")
  pub form : IsPicked words (codes "json") Json Text request.form

-- the arguments of `page`
pub record IsPage (words : Found) (request : PageRequest) : Type 0 where
  pub volume : IsVolumeSource (streamed_texts words) words request.volume
  pub size : option_map (λ text. text.now) request.size ≡ optional_text words (codes "size")
  pub title : option_map (λ text. text.now) request.title ≡ optional_text words (codes "title")
  pub out : request.out.now ≡ printed_path words

-- the arguments of `extract`; where no path is given of what is wanted, it is the root
pub record IsExtract (words : Found) (request : ExtractRequest) : Type 0 where
  pub volume : IsVolumeSource (input_texts words) words request.volume
  pub folder : request.folder.now ≡ folder_text words
  pub only : texts request.only.items ≡ only_texts words
  pub fill : IsPicked words (codes "fill") true false request.fill
  pub short_names : IsPicked words (codes "short-names") true false request.short_names
  pub times : IsPicked words (codes "times") true false request.times
  pub manifest : option_map (λ path. path.now) request.manifest ≡ optional_text words (codes "manifest")
  pub lost : option_map (λ path. path.now) request.lost ≡ optional_text words (codes "unnamed")
  pub trees : option_map (λ path. path.now) request.trees ≡ optional_text words (codes "lost")
  pub deleted : IsPicked words (codes "deleted") true false request.deleted

-- by the command
abbrev pub IsRequest : List ℕ → Found → Request → Type 0
IsRequest name words (request.Merge r) = (name ≡ codes "merge") × IsMerge words r
IsRequest name words (request.Forget r) = (name ≡ codes "forget") × IsForget words r
IsRequest name words (request.Image r) = (name ≡ codes "image") × IsImage words r
IsRequest name words (request.Report r) = (name ≡ codes "report") × IsReport words r
IsRequest name words (request.Reread r) = (name ≡ codes "reread") × IsReread words r
IsRequest name words (request.List r) = (name ≡ codes "list") × IsList words r
IsRequest name words (request.Summary r) = (name ≡ codes "summary") × IsSummary words r
IsRequest name words (request.Page r) = (name ≡ codes "page") × IsPage words r
IsRequest name words (request.Extract r) = (name ≡ codes "extract") × IsExtract words r

-- of a last block, a size and a mapfile to take it from no two are given, nor a size that is not that of whole blocks; rules that are named are known; groups have a size, and a mapfile; standard input is taken once
pub record Reads (name : List ℕ) (words : Found) (request : Request) : Type 0 where
  pub is : IsRequest name words request
  pub one_end : IsOneEnd words
  pub known_profile : IsKnownProfile words
  pub good_group : IsGoodGroup words
  pub one_stream : are_two_streams name words ≡ false

-- there is a command of this name
abbrev pub IsCommandName : List ℕ → Type 0
IsCommandName name = (name ≡ codes "merge") ⊎ (name ≡ codes "forget") ⊎ (name ≡ codes "image") ⊎ (name ≡ codes "report") ⊎ (name ≡ codes "reread") ⊎ (name ≡ codes "list") ⊎ (name ≡ codes "summary") ⊎ (name ≡ codes "page") ⊎ (name ≡ codes "extract")

-- the fault is in the arguments; or memory ran out
abbrev pub IsUsageFault : List ℕ → Found → UsageFault → Type 0
IsUsageFault name words (fault.End wrong) = IsEndFault words wrong
IsUsageFault name words (fault.Profile named) = IsUnknownProfile words named.now
IsUsageFault name words (fault.Group wrong) = IsGroupFault words wrong
IsUsageFault name words fault.TwoStreams = are_two_streams name words ≡ true
IsUsageFault name words fault.NoCommand = ¬ IsCommandName name
IsUsageFault name words fault.OutOfMemory = Unit {0}

-- the command line, the program's name first, names the command and has these arguments for it
pub record Asked (line : List (List ℕ)) (request : Request) : Type 0 where
  pub name : List ℕ
  pub words : Found
  pub is_asked : IsAsked line name words
  pub reads : Reads name words request
