-- What comes of a job whose file is put in the place of another.
--     IsJobLeft error                 the new file could not be removed
--     JobBlames .. error              what an error says that failed
--     EndsNew error                   why a new file was not made
--     GivesUp refusal error           the error, once the new file was removed or could not be
--     HoldsSome Is held               a path holds some bytes of which this is said
--     LeavesSome Is left              the same of what a crash leaves there
--     ReplacedBySome path Is          a file with some such bytes was put in the place of another, or not yet
use Rattle.std.specs.Prelude.{◌≡◌, ◌≢◌, ◌⊎◌, ℕ, List, Option, Some, None}
use Rattle.udfs_reading.specs.declared.writing.WriteFault.{WriteFault}
use Rattle.udfs_host_fs.specs.Disk.{Disk, IsOwn}
use Rattle.udfs_host_fs.specs.declared.replacing.ReplaceError.{ReplaceError}
use Rattle.udfs_host_fs.specs.declared.replacing.ReplaceError.TheVariants.{OutOfMemory, NotMade, NotWritten, LeftBehind}
use Rattle.udfs_host_fs.specs.declared.replacing.JobError.{JobError}
use Rattle.udfs_host_fs.specs.declared.replacing.JobError.TheVariants.{Files, Refused, RefusedLeft}

-- the new file could not be removed, and may be incomplete
abbrev pub IsJobLeft : {X : Type 0} → JobError X → Type 0
IsJobLeft {X} (Files e) = e ≡ LeftBehind
IsJobLeft {X} (Refused x) = ⊥
IsJobLeft {X} (RefusedLeft x) = Unit {0}

-- `Failed` holds, unless memory ran out before anything was tried, or the job failed with an error that does not blame the sink
abbrev pub JobBlames : {X : Type 0} → (X → Type 0) → Type 0 → JobError X → Type 0
JobBlames {X} blames Failed (Files e) = e ≢ OutOfMemory → Failed
JobBlames {X} blames Failed (Refused x) = blames x → Failed
JobBlames {X} blames Failed (RefusedLeft x) = Failed

-- it could not be made or not be written, or the job failed
abbrev pub EndsNew : {X : Type 0} → JobError X → Type 0
EndsNew {X} (Files e) = (e ≡ NotMade) ⊎ (e ≡ NotWritten)
EndsNew {X} (Refused x) = Unit {0}
EndsNew {X} (RefusedLeft x) = ⊥

-- the error after a failed call, or with the job's error where there is one; either with the new file removed or left
abbrev pub GivesUp : {X : Type 0} → Option X → JobError X → Type 0
GivesUp None error = (error ≡ Files NotWritten) ⊎ (error ≡ Files LeftBehind)
GivesUp (Some x) error = (error ≡ Refused x) ⊎ (error ≡ RefusedLeft x)

-- a path holds bytes of which this is said
abbrev pub HoldsSome : (List ℕ → Type 0) → Option (Option (List ℕ)) → Type 0
HoldsSome Is held = (bytes : List ℕ) × Is bytes × (held ≡ Some (Some bytes))

-- a crash leaves bytes of which this is said
abbrev pub LeavesSome : (List ℕ → Type 0) → Option (List ℕ) → Type 0
LeavesSome Is left = (bytes : List ℕ) × Is bytes × (left ≡ Some bytes)

-- at a path is what was there or bytes of which this is said, whole, and at every other path but those of new files what was there
pub record ReplacedBySome (path : List ℕ) (Is : List ℕ → Type 0) (d c : Disk) : Type 0 where
  pub whole : (c path ≡ d path) ⊎ LeavesSome Is (c path)
  pub others : (q : List ℕ) → (¬ IsOwn path q) → q ≢ path → c q ≡ d q

-- the error of a content, which fails only where its sink fails
abbrev pub content_error : JobError WriteFault → ReplaceError
content_error (Files e) = e
content_error (Refused x) = NotWritten
content_error (RefusedLeft x) = LeftBehind
