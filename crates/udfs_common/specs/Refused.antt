-- Why inputs that are read at positions were not taken, or not read again, and what is said of it.
--     refused_in                     why an input has no reading
--     OneFails                       one of some inputs has this error
--     BlamesOne                      one of them was not taken, and what is said of it
--     BlamesPath                     the same of the inputs of some paths
--     IsUncompared, IsRereadOf         bytes of one of this many inputs could not be read again, to be compared or to be written
--     StoredRefused                  inputs that are read at positions were not taken, and why
--     IsUnindexed                    the same, or one of them is of another disc
--     IndexRefused                   the same of the inputs of some paths
use Rattle.std.specs.Prelude.{◌≡◌, ◌≢◌, ◌⊎◌, ◌<◌, ◌+◌, ℕ, Bool, true, List, ◌∷◌, ◌++◌, Option, None, Some, Err, alloc_error, length}
use Rattle.udfs_lattice.specs.Tables.{Table}
use Rattle.udfs_index.specs.declared.any_stored.AnyStored.{AnyStored}
use Rattle.udfs_index.specs.declared.any_stored.AnyStored.TheVariants.{File, Paired, Refused}
use Rattle.udfs_reading.specs.Answers.{GivesFault, RefusesFaulty}
use Rattle.udfs_reading.specs.Inputs.{inputs}
use Rattle.udfs_reading.specs.Several.{TablesAre}
use Rattle.udfs_reading.specs.declared.error.ReadingFault.TheVariants.{Io}
use Rattle.udfs_reading.specs.declared.inputs.InputError.{InputError}
use Rattle.udfs_rescue.specs.declared.opening.PairFault.{PairFault}
use Rattle.udfs_words.specs.declared.input_path.InputPath.{InputPath}
use Rattle.udfs_common.specs.Blaming.{AreJudgedFor, IsShut, source_reason, stored_reason}
use Rattle.udfs_common.specs.Keeping.{Opens}
use Rattle.udfs_common.specs.OtherDiscs.{IsOtherDisc}
use Rattle.udfs_common.specs.Refusing.{NamesNoOther, refusal_with}
use Rattle.udfs_common.specs.declared.refusal.Refusal.{Refusal}
use Rattle.udfs_common.specs.declared.refusal.Refusal.TheVariants as refusal
use Rattle.udfs_common.specs.declared.sources.AnySource.{AnySource}
use Rattle.udfs_common.specs.Indexing.{IsNamed, IsOtherOf}

-- why an input has none, where it is an image with its mapfile and has none
abbrev pub refused_in : {S : Type 0} {g : _} → Option (AnyStored S g) → Option PairFault
refused_in None = None
refused_in (Some (File stored)) = None
refused_in (Some (Paired pair)) = None
refused_in (Some (Refused fault)) = Some fault

-- those before it have tables; a fault of its bytes, where they are known, is their first one, and where they have one no other is reported of them
pub record OneFails {R : Type 0} (remaining : R → Option (List ℕ)) (all : List R) (error : InputError) : Type 0 where
  pub earlier : List R
  pub one : R
  pub later : List R
  pub are : all ≡ earlier ++ one ∷ later
  pub which : error.input ≡ length earlier + 1
  pub tables : List Table
  pub have_tables : TablesAre remaining earlier tables
  pub fault : GivesFault inputs (remaining one) (Err error.error)
  pub faulty : RefusesFaulty inputs (remaining one) (Err error.error)

-- it has this error, which is reported with the reason why the input has no reading, if there is one
pub record BlamesOne {R : Type 0} (remaining : R → Option (List ℕ)) (reason : R → Option PairFault) (all : List R) (refusal : Refusal) : Type 0 where
  pub error : InputError
  pub fails : OneFails remaining all error
  pub told : refusal ≡ refusal_with (reason fails.one) error

-- the inputs are those that the paths lead to
pub record BlamesPath {R : Type 0} (found : List ℕ → Option (Option (List ℕ))) (remaining : R → Option (List ℕ)) (reason : R → Option PairFault) (paths : List InputPath) (refusal : Refusal) : Type 0 where
  pub sources : List R
  pub each : length sources ≡ length paths
  pub opened : Opens found remaining paths sources
  pub judged : AreJudgedFor found reason paths sources
  pub blames : BlamesOne remaining reason sources refusal

-- its device failed, and it is named, counted from 1
abbrev pub IsUncompared : ℕ → Refusal → Type 0
IsUncompared count r = (place : ℕ) × (number : ℕ) × (place < count) × (r ≡ refusal.Input (place + 1) (record { fault = Io; number = number }))

-- or it has changed since it was begun
abbrev pub IsRereadOf : ℕ → Refusal → Type 0
IsRereadOf count r = (place : ℕ) × (number : ℕ) × (place < count) × (r ≡ refusal.Reread (place + 1) number)

-- memory ran out, or one of them was not taken, or its bytes could not be compared with those of another
abbrev pub StoredRefused : {S : Type 0} → (S → Option (List ℕ)) → (S → Option PairFault) → List S → Refusal → Type 0
StoredRefused content reason stored r = (r ≡ refusal.Memory alloc_error) ⊎ BlamesOne content reason stored r ⊎ IsUncompared (length stored) r

-- nothing is told as done; and none is named as one of another disc where what is is to be joined (`force`)
abbrev pub IsUnindexed : {S : Type 0} {g : _} → (AnyStored S g → Option (List ℕ)) → List InputPath → List (AnyStored S g) → Bool → Refusal → Type 0
IsUnindexed content paths stored force r = (StoredRefused content stored_reason stored r ⊎ IsOtherOf content paths stored r) × (r ≢ refusal.Unkept) × (force ≡ true → NamesNoOther r)

-- memory ran out; or one of the paths is shut, and it is named; or what it leads to has no table, and why; or bytes of an input could not be read again; or, where it is known what the files hold (`tells`), an image among the inputs is of another disc
pub record IndexRefused {R I : Type 0} (tells : Type 0) (found : List ℕ → Option (Option (List ℕ))) (shut : List ℕ → Type 0) (remaining : AnySource R I → Option (List ℕ)) (paths : List InputPath) (refused : Refusal) : Type 0 where
  pub why : (refused ≡ refusal.Memory alloc_error) ⊎ IsShut shut paths refused ⊎ BlamesPath found remaining source_reason paths refused ⊎ IsUncompared (length paths) refused ⊎ IsRereadOf (length paths) refused ⊎ (IsNamed refused × (tells → IsOtherDisc found remaining paths refused))
