-- Why the inputs of some paths were not joined, and which of them is to blame.
--     IsShut shut paths refusal         one of the paths may fail to open, and it is named
--     AreJudged found paths sources     each source that is `Refused` is an image whose mapfile gives no reading of it, for the reason that the source has
--     AreJudgedFor found reason paths sources     the same of sources of any kind, where `reason` says why one has no reading
--     BlamesSource                      one of these sources could not be read, and what is said of it
--     BlamesInput                       the same of the sources of some paths
--     InputsRefused                     the inputs of some paths were not joined: memory ran out, or one of them is shut, or could not be read, or is of another disc
use Rattle.std.specs.Prelude.{◌≡◌, ◌⊎◌, ⊤, ℕ, ◌+◌, ◌-◌, List, Option, Some, None, IfSome, length, slice_get, alloc_error}
use Rattle.udfs_reading.specs.Several.{InputFails}
use Rattle.udfs_reading.specs.declared.inputs.InputError.{InputError}
use Rattle.udfs_rescue.specs.Opening.{PairFails}
use Rattle.udfs_rescue.specs.declared.opening.PairFault.{PairFault}
use Rattle.udfs_index.specs.declared.any_stored.AnyStored.{AnyStored}
use Rattle.udfs_index.specs.declared.any_stored.AnyStored.TheVariants as any
use Rattle.udfs_common.specs.Keeping.{Opens}
use Rattle.udfs_common.specs.OtherDiscs.{IsOtherDisc}
use Rattle.udfs_common.specs.Refusing.{refusal_for}
use Rattle.udfs_common.specs.declared.refusal.Refusal.{Refusal}
use Rattle.udfs_common.specs.declared.refusal.Refusal.TheVariants.{Memory, Open}
use Rattle.udfs_common.specs.declared.sources.AnySource.{AnySource}
use Rattle.udfs_common.specs.declared.sources.AnySource.TheVariants.{File, Paired, Refused}
use Rattle.udfs_words.specs.declared.input_path.InputPath.{InputPath}
use Rattle.udfs_words.specs.declared.input_path.InputPath.TheVariants as path

-- the path of a file, or one of those of an image and its mapfile, may fail to open
abbrev pub MayBeShut : (List ℕ → Type 0) → InputPath → Type 0
MayBeShut shut (path.File p) = shut p.now
MayBeShut shut (path.Pair image map) = shut image.now ⊎ shut map.now

-- the input at this place may fail to open, and it is named, counted from 1
pub record IsShut (shut : List ℕ → Type 0) (paths : List InputPath) (refusal : Refusal) : Type 0 where
  pub place : ℕ
  pub path : InputPath
  pub stands : slice_get paths place ≡ Some path
  pub may : MayBeShut shut path
  pub named : refusal ≡ Open (place + 1)

-- why an image with its mapfile has no reading, where what both paths lead to is known
pub record IsRefusedPair (found : List ℕ → Option (Option (List ℕ))) (image map : List ℕ) (fault : PairFault) : Type 0 where
  pub image_has : Option (List ℕ)
  pub map_has : Option (List ℕ)
  pub image_found : IfSome (found image) (λ held. image_has ≡ held)
  pub map_found : IfSome (found map) (λ held. map_has ≡ held)
  pub fails : PairFails image_has map_has fault

-- why the input at a path has no reading; a file has no mapfile that could be the reason
abbrev pub IsPathRefused : (List ℕ → Option (Option (List ℕ))) → InputPath → PairFault → Type 0
IsPathRefused found (path.File p) fault = ⊥
IsPathRefused found (path.Pair image map) fault = IsRefusedPair found image.now map.now fault

-- by the source's kind
abbrev pub IsJudgedBy : {R I : Type 0} → (List ℕ → Option (Option (List ℕ))) → InputPath → AnySource R I → Type 0
IsJudgedBy found path (File source) = ⊤
IsJudgedBy found path (Paired source) = ⊤
IsJudgedBy found path (Refused fault count) = IsPathRefused found path fault

-- where a source is `Refused`, its reason follows from what its path leads to
pub record IsJudged {R I : Type 0} (found : List ℕ → Option (Option (List ℕ))) (path : InputPath) (source : AnySource R I) : Type 0 where
  pub by : IsJudgedBy found path source

-- the source at each place by the path at that place
abbrev pub AreJudged : {R I : Type 0} → (List ℕ → Option (Option (List ℕ))) → List InputPath → List (AnySource R I) → Type 0
AreJudged {R} {I} found paths sources = (k : ℕ) (path : InputPath) (source : AnySource R I) → slice_get paths k ≡ Some path → slice_get sources k ≡ Some source → IsJudged found path source

-- why a source has no reading, where it is `Refused`
abbrev pub source_reason : {R I : Type 0} → AnySource R I → Option PairFault
source_reason (File source) = None
source_reason (Paired source) = None
source_reason (Refused fault count) = Some fault

-- the same of an input that is read at positions
abbrev pub stored_reason : {S : Type 0} {g : _} → AnyStored S g → Option PairFault
stored_reason (any.File stored) = None
stored_reason (any.Paired stored) = None
stored_reason (any.Refused fault) = Some fault

-- a reason, if there is one, follows from what the path leads to
pub record IsJudgedFor (found : List ℕ → Option (Option (List ℕ))) (path : InputPath) (reason : Option PairFault) : Type 0 where
  pub by : IfSome reason (λ fault. IsPathRefused found path fault)

-- the source at each place by the path at that place
abbrev pub AreJudgedFor : {R : Type 0} → (List ℕ → Option (Option (List ℕ))) → (R → Option PairFault) → List InputPath → List R → Type 0
AreJudgedFor {R} found reason paths sources = (k : ℕ) (path : InputPath) (source : R) → slice_get paths k ≡ Some path → slice_get sources k ≡ Some source → IsJudgedFor found path (reason source)

-- one of these sources could not be read: those before it have tables; a pair that has no reading is reported with its own reason
pub record BlamesSource {R I : Type 0} (remaining : AnySource R I → Option (List ℕ)) (faults : AnySource R I → ℕ) (before after : List (AnySource R I)) (refusal : Refusal) : Type 0 where
  pub error : InputError
  pub fails : InputFails remaining faults before after error
  pub told : refusal ≡ refusal_for (slice_get before (error.input - 1)) error

-- the same of the sources that the paths lead to
pub record BlamesInput {R I : Type 0} (found : List ℕ → Option (Option (List ℕ))) (remaining : AnySource R I → Option (List ℕ)) (faults : AnySource R I → ℕ) (paths : List InputPath) (refusal : Refusal) : Type 0 where
  pub sources : List (AnySource R I)
  pub after : List (AnySource R I)
  pub each : length sources ≡ length paths
  pub opened : Opens found remaining paths sources
  pub judged : AreJudged found paths sources
  pub blames : BlamesSource remaining faults sources after refusal

-- why the inputs of these paths were not joined
pub record InputsRefused {R I : Type 0} (found : List ℕ → Option (Option (List ℕ))) (shut : List ℕ → Type 0) (remaining : AnySource R I → Option (List ℕ)) (faults : AnySource R I → ℕ) (paths : List InputPath) (refusal : Refusal) : Type 0 where
  pub why : (refusal ≡ Memory alloc_error) ⊎ IsShut shut paths refusal ⊎ BlamesInput found remaining faults paths refusal ⊎ IsOtherDisc found remaining paths refusal
