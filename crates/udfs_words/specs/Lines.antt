-- A line of arguments of each command, and what it asks for.
--     IsLine name line Is     the grammar takes the line, which names the command and has no other fault, and such a request is what it asks for
use Rattle.std.specs.Prelude.{◌≡◌, false, true, List, [], ◌∷◌, None, Some, codes, option_map}
use Rattle.clap.specs.Words.{Text}
use Rattle.clap.specs.declared.parser.matches.Found.{Found}
use Rattle.udfs_volume.specs.declared.profiles.Profile.{Profile}
use Rattle.udfs_volume.specs.declared.profiles.Profile.TheVariants.{Strict, Wide}
use Rattle.udfs_words.specs.Asking.{IsGoodGroup, IsKnownProfile, IsOneEnd, are_two_streams}
use Rattle.udfs_words.specs.Obeying.{Asks, GrammarTakes, IsAsked}
use Rattle.udfs_words.specs.Requests.{Asked, texts}
use Rattle.udfs_words.specs.declared.forms.Form.TheVariants.{Json}
use Rattle.udfs_words.specs.declared.forms.Version.TheVariants.{One}
use Rattle.udfs_words.specs.declared.group.GroupSize.TheVariants.{Sixteen}
use Rattle.udfs_words.specs.declared.request.Inputs.{Inputs}
use Rattle.udfs_words.specs.declared.request.LastSource.{LastSource}
use Rattle.udfs_words.specs.declared.request.LastSource.TheVariants.{Block, OfMaps}
use Rattle.udfs_words.specs.declared.request.VolumeSource.{VolumeSource}
use Rattle.udfs_words.specs.declared.request.Request.{Request}
use Rattle.udfs_words.specs.declared.request.Request.TheVariants as request

-- the grammar takes the line; it names this command; of a last block, a size and a mapfile to take it from no two are given, nor a size that is not that of whole blocks, nor rules that there are not, nor standard input twice, nor groups without a size or a mapfile; and each request that it asks for is such a one
pub record IsLine (name : Text) (line : List Text) (Is : Request → Type 0) : Type 0 where
  pub takes : GrammarTakes line
  pub names : Asks line name
  pub lawful : (words : Found) → IsAsked line name words → IsOneEnd words × IsKnownProfile words × (are_two_streams name words ≡ false) × IsGoodGroup words
  pub is : (request : Request) → Asked line request → Is request

-- the inputs are these files and these images with their mapfiles
abbrev pub Have : Inputs → List Text → List Text → Type 0
Have inputs files parts = (texts inputs.files.items ≡ files) × (texts inputs.parts.items ≡ parts)

-- the volume of these files, up to this last block, by these rules
abbrev pub Reads : VolumeSource → Text → LastSource → Profile → Type 0
Reads volume file last profile = Have volume.inputs (file ∷ []) [] × (volume.last ≡ last) × (volume.profile ≡ profile)

-- `udfsalvage merge --v1 --out all.tab first.rdg second.rdg`
abbrev pub merge_line : List Text
merge_line = codes "udfsalvage" ∷ codes "merge" ∷ codes "--v1" ∷ codes "--out" ∷ codes "all.tab" ∷ codes "first.rdg" ∷ codes "second.rdg" ∷ []

-- both readings, as a table file of version 1, over no reading that is no input
abbrev pub IsSomeMerge : Request → Type 0
IsSomeMerge (request.Merge r) = Have r.inputs (codes "first.rdg" ∷ codes "second.rdg" ∷ []) [] × (r.version ≡ One) × (r.out.now ≡ codes "all.tab") × (r.force ≡ false)
IsSomeMerge _ = ⊥

-- `udfsalvage forget --conflicts --blocks - --output left.tab --force all.tab`
abbrev pub forget_line : List Text
forget_line = codes "udfsalvage" ∷ codes "forget" ∷ codes "--conflicts" ∷ codes "--blocks" ∷ codes "-" ∷ codes "--output" ∷ codes "left.tab" ∷ codes "--force" ∷ codes "all.tab" ∷ []

-- the blocks in conflict and those that standard input lists, over whatever reading is there
abbrev pub IsSomeForget : Request → Type 0
IsSomeForget (request.Forget r) = Have r.inputs (codes "all.tab" ∷ []) [] × (r.conflicts ≡ true) × (texts r.lists.items ≡ codes "/dev/stdin" ∷ []) × (r.out.now ≡ codes "left.tab") × (r.force ≡ true)
IsSomeForget _ = ⊥

-- `udfsalvage image --ddrescue old.img old.map --out disc.img --mapfile disc.map all.tab`
abbrev pub image_line : List Text
image_line = codes "udfsalvage" ∷ codes "image" ∷ codes "--ddrescue" ∷ codes "old.img" ∷ codes "old.map" ∷ codes "--out" ∷ codes "disc.img" ∷ codes "--mapfile" ∷ codes "disc.map" ∷ codes "all.tab" ∷ []

-- up to where the mapfiles end, over nothing
abbrev pub IsSomeImage : Request → Type 0
IsSomeImage (request.Image r) = Have r.inputs (codes "all.tab" ∷ []) (codes "old.img" ∷ codes "old.map" ∷ []) × (r.last ≡ OfMaps) × (r.image.now ≡ codes "disc.img") × (r.mapfile.now ≡ codes "disc.map") × (r.force ≡ false)
IsSomeImage _ = ⊥

-- `udfsalvage report --last 1000 --json all.tab`
abbrev pub report_line : List Text
report_line = codes "udfsalvage" ∷ codes "report" ∷ codes "--last" ∷ codes "1000" ∷ codes "--json" ∷ codes "all.tab" ∷ []

-- as JSON
abbrev pub IsSomeReport : Request → Type 0
IsSomeReport (request.Report r) = Reads r.volume (codes "all.tab") (Block 1000) Strict × (r.form ≡ Json)
IsSomeReport _ = ⊥

-- `udfsalvage reread --last 1000 --only /a/ --domain again.map --group 16 all.tab`
abbrev pub reread_line : List Text
reread_line = codes "udfsalvage" ∷ codes "reread" ∷ codes "--last" ∷ codes "1000" ∷ codes "--only" ∷ codes "/a/" ∷ codes "--domain" ∷ codes "again.map" ∷ codes "--group" ∷ codes "16" ∷ codes "all.tab" ∷ []

-- for one file or folder, into a mapfile, in groups of 16, with known blocks
abbrev pub IsSomeReread : Request → Type 0
IsSomeReread (request.Reread r) = Reads r.volume (codes "all.tab") (Block 1000) Strict × (texts r.only.items ≡ codes "/a" ∷ []) × (option_map (λ path. path.now) r.mapfile ≡ Some (codes "again.map")) × (r.group ≡ Some Sixteen) × (r.witnesses ≡ true)
IsSomeReread _ = ⊥

-- `udfsalvage list --size 1001s --torn --paths -0 --header -`
abbrev pub list_line : List Text
list_line = codes "udfsalvage" ∷ codes "list" ∷ codes "--size" ∷ codes "1001s" ∷ codes "--torn" ∷ codes "--paths" ∷ codes "-0" ∷ codes "--header" ∷ codes "-" ∷ []

-- the paths of what is not whole, each with a zero byte behind it and none as JSON, below a header, of 1001 blocks that standard input has
abbrev pub IsSomeList : Request → Type 0
IsSomeList (request.List r) = Reads r.volume (codes "/dev/stdin") (Block 1000) Strict × (r.torn ≡ true) × (r.null ≡ true) × (r.paths ≡ true) × (r.header ≡ true) × (r.json ≡ false)
IsSomeList _ = ⊥

-- `udfsalvage summary --last 1000 --profile wide --json all.tab`
abbrev pub summary_line : List Text
summary_line = codes "udfsalvage" ∷ codes "summary" ∷ codes "--last" ∷ codes "1000" ∷ codes "--profile" ∷ codes "wide" ∷ codes "--json" ∷ codes "all.tab" ∷ []

-- by the wide rules, as JSON
abbrev pub IsSomeSummary : Request → Type 0
IsSomeSummary (request.Summary r) = Reads r.volume (codes "all.tab") (Block 1000) Wide × (r.form ≡ Json)
IsSomeSummary _ = ⊥

-- `udfsalvage page --last 1000 --out - --title Box all.tab`
abbrev pub page_line : List Text
page_line = codes "udfsalvage" ∷ codes "page" ∷ codes "--last" ∷ codes "1000" ∷ codes "--out" ∷ codes "-" ∷ codes "--title" ∷ codes "Box" ∷ codes "all.tab" ∷ []

-- onto standard output, with a title
abbrev pub IsSomePage : Request → Type 0
IsSomePage (request.Page r) = Reads r.volume (codes "all.tab") (Block 1000) Strict × (r.out.now ≡ codes "/dev/stdout") × (option_map (λ text. text.now) r.size ≡ None) × (option_map (λ text. text.now) r.title ≡ Some (codes "Box"))
IsSomePage _ = ⊥

-- `udfsalvage extract --last 1000 --to files --fill --only /a --only /b --manifest sums --lost found --deleted --times all.tab`
abbrev pub extract_line : List Text
extract_line = codes "udfsalvage" ∷ codes "extract" ∷ codes "--last" ∷ codes "1000" ∷ codes "--to" ∷ codes "files" ∷ codes "--fill" ∷ codes "--only" ∷ codes "/a" ∷ codes "--only" ∷ codes "/b" ∷ codes "--manifest" ∷ codes "sums" ∷ codes "--lost" ∷ codes "found" ∷ codes "--deleted" ∷ codes "--times" ∷ codes "all.tab" ∷ []

-- two files or folders, torn ones too, with their times and a manifest, and lost folders, deleted ones too, but no files by their blocks alone
abbrev pub IsSomeExtract : Request → Type 0
IsSomeExtract (request.Extract r) = Reads r.volume (codes "all.tab") (Block 1000) Strict × (r.folder.now ≡ codes "files") × (texts r.only.items ≡ codes "/a" ∷ codes "/b" ∷ []) × (r.fill ≡ true) × (r.short_names ≡ false) × (r.times ≡ true) ×
    (option_map (λ path. path.now) r.manifest ≡ Some (codes "sums")) × (option_map (λ path. path.now) r.lost ≡ None) × (option_map (λ path. path.now) r.trees ≡ Some (codes "found")) × (r.deleted ≡ true)
IsSomeExtract _ = ⊥
