-- One of several sources that was not taken.
--     NoneFails faults olds news                              none of these sources failed
--     BlamesAlone remaining faults olds news number refusal   the only source here could not be read, and what is said of it where this is its number
--     IsOtherSource remaining paths sources refusal           one of these sources is of another disc than those before it
--     Takes remaining source Old New Apart                    one was taken
--     TakesAlone remaining olds Old New Apart                 the only source here was taken
--     IsOther remaining source Old number refusal             one is of another disc
--     IsUntaken .. number Pair refusal                        the only source here was not taken, and why
--     Taken remaining paths sources force Old New             all were taken
--     AreUntaken .. refusal                                   not all were, and why
use Rattle.std.specs.Prelude.{◌≡◌, ◌⊎◌, ◌+◌, ◌<◌, ℕ, Bool, true, false, List, [], ◌∷◌, ◌++◌, Option, IfSome, alloc_error, length, map, slice_get, take}
use Rattle.udfs_lattice.specs.Records.{join_all}
use Rattle.udfs_lattice.specs.Tables.{Table, empty_table, join_tables}
use Rattle.udfs_reading.specs.Several.{HasTable, InputFails, TablesAre}
use Rattle.udfs_reading.specs.declared.inputs.InputError.{InputError}
use Rattle.udfs_common.specs.Blaming.{BlamesSource}
use Rattle.udfs_common.specs.OtherDiscs.{EachIsOne, IsOneDisc, IsOtherBy, pair_at}
use Rattle.udfs_common.specs.Refusing.{refusal_for}
use Rattle.udfs_common.specs.declared.refusal.Refusal.{Refusal}
use Rattle.udfs_common.specs.declared.refusal.Refusal.TheVariants.{Memory}
use Rattle.udfs_common.specs.declared.sources.AnySource.{AnySource}
use Rattle.udfs_words.specs.declared.input_path.InputPath.{InputPath}

-- each count of faults is what it was
abbrev pub NoneFails : {R : Type 0} → (R → ℕ) → List R → List R → Type 0
NoneFails faults olds news = map faults news ≡ map faults olds

-- its count of faults changed exactly if it is its device that is blamed
pub record BlamesAlone {R I : Type 0} (remaining : AnySource R I → Option (List ℕ)) (faults : AnySource R I → ℕ) (olds news : List (AnySource R I)) (number : ℕ) (refusal : Refusal) : Type 0 where
  pub error : InputError
  pub fails : InputFails remaining faults olds news error
  pub told : refusal ≡ refusal_for (slice_get olds 0) (record { input = number; error = error.error })

-- it and those before it have tables
pub record IsOtherSource {R : Type 0} (remaining : R → Option (List ℕ)) (paths : List InputPath) (sources : List R) (refusal : Refusal) : Type 0 where
  pub place : ℕ
  pub within : place < length sources
  pub pair : pair_at paths place ≡ true
  pub tables : List Table
  pub own : Table
  pub have : TablesAre remaining (take (place + 1) sources) (tables ++ own ∷ [])
  pub other : IsOtherBy (join_all tables) own (place + 1) refusal

-- a source was taken: its table was joined, and, where it was compared (`Apart`), it is not of another disc
pub record Takes {R : Type 0} (remaining : R → Option (List ℕ)) (source : R) (Old New : Table → Type 0) (Apart : Type 0) : Type 0 where
  pub own : Table
  pub has : IfSome (remaining source) (λ bytes. HasTable bytes own)
  pub took : (t : Table) → Old t → New (join_tables t own)
  pub one : Apart → (t : Table) → Old t → IsOneDisc t own

-- whichever it is
abbrev pub TakesAlone : {R : Type 0} → (R → Option (List ℕ)) → List R → (Table → Type 0) → (Table → Type 0) → Type 0 → Type 0
TakesAlone {R} remaining olds Old New Apart = (source : R) → olds ≡ source ∷ [] → Takes remaining source Old New Apart

-- a source was not taken, since it is of another disc
pub record IsOther {R : Type 0} (remaining : R → Option (List ℕ)) (source : R) (Old : Table → Type 0) (number : ℕ) (refusal : Refusal) : Type 0 where
  pub own : Table
  pub has : IfSome (remaining source) (λ bytes. HasTable bytes own)
  pub other : (t : Table) → Old t → IsOtherBy t own number refusal

-- memory ran out, and it did not fail; or it could not be read; or, where it is an image (`Pair`), it is of another disc
abbrev pub IsUntaken : {R I : Type 0} → (AnySource R I → Option (List ℕ)) → (AnySource R I → ℕ) → List (AnySource R I) → List (AnySource R I) → (Table → Type 0) → ℕ → Type 0 → Refusal → Type 0
IsUntaken {R} {I} remaining faults olds news Old number Pair refusal = ((refusal ≡ Memory alloc_error) × NoneFails faults olds news) ⊎ BlamesAlone remaining faults olds news number refusal ⊎
    (Pair × ((source : AnySource R I) → olds ≡ source ∷ [] → IsOther remaining source Old number refusal))

-- the sources were taken, in their order; where none was before them, no image is of another disc, but by force
pub record Taken {R : Type 0} (remaining : R → Option (List ℕ)) (paths : List InputPath) (sources : List R) (force : Bool) (Old New : Table → Type 0) : Type 0 where
  pub tables : List Table
  pub are : TablesAre remaining sources tables
  pub took : (t : Table) → Old t → New (join_tables t (join_all tables))
  pub each : Old empty_table → force ≡ false → EachIsOne paths tables

-- memory ran out, and none of them failed; or the first that could not be read is named, and why; or, where nothing was taken before, the first image of another disc
abbrev pub AreUntaken : {R I : Type 0} → (AnySource R I → Option (List ℕ)) → (AnySource R I → ℕ) → List InputPath → List (AnySource R I) → List (AnySource R I) → (Table → Type 0) → Refusal → Type 0
AreUntaken remaining faults paths olds news Old refusal = ((refusal ≡ Memory alloc_error) × NoneFails faults olds news) ⊎ BlamesSource remaining faults olds news refusal ⊎ (Old empty_table → IsOtherSource remaining paths olds refusal)
