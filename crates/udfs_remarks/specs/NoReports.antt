-- What a command says where a table has no report, or its report was not printed.
use Rattle.std.specs.Prelude.{◌≡◌, ◌⊎◌, ℕ, alloc_error}
use Rattle.udfs_lattice.specs.Tables.{Table, state_of}
use Rattle.udfs_volume.specs.declared.profiles.Profile.{Profile}
use Rattle.udfs_salvage.specs.Running.{IsRefusedForBy}
use Rattle.udfs_salvage.specs.TreeReports.{AgreesWithNoneBy}
use Rattle.udfs_salvage.specs.declared.errors.RunError.{RunError}
use Rattle.udfs_salvage.specs.declared.errors.RunError.TheVariants as run
use Rattle.udfs_salvage.specs.declared.errors.SalvageError.{SalvageError}
use Rattle.udfs_salvage.specs.declared.errors.SalvageError.TheVariants as salvage
use Rattle.udfs_common.specs.Refusing.{refusal_of}
use Rattle.udfs_common.specs.declared.refusal.Refusal.{Refusal}
use Rattle.udfs_common.specs.declared.refusal.Refusal.TheVariants.{Output, LastRange, PastEnd, TooManyPaths, Memory}

-- what a command says where there is no report
abbrev pub salvage_refusal_of : SalvageError → Refusal
salvage_refusal_of salvage.LastRange = LastRange
salvage_refusal_of (salvage.PastEnd n) = PastEnd n
salvage_refusal_of salvage.TooManyPaths = TooManyPaths
salvage_refusal_of salvage.OutOfMemory = Memory alloc_error

-- what a command says where a report was not printed, or only begun
abbrev pub run_refusal_of : RunError → Refusal
run_refusal_of (run.Reading error) = refusal_of error
run_refusal_of (run.Salvage error) = salvage_refusal_of error
run_refusal_of run.Write = Output
run_refusal_of run.OutOfMemory = Memory alloc_error

-- the table has no report by the rules of a profile, no lawful volume agrees with it, and this is said of it
pub record HasNoReport (profile : Profile) (last : ℕ) (refusal : Refusal) (table : Table) : Type 0 where
  pub why : SalvageError
  pub because : IsRefusedForBy profile table last why
  pub no_lawful : AgreesWithNoneBy profile (state_of table) last
  pub told : refusal ≡ salvage_refusal_of why

-- the table has no report, or memory ran out before it had one
abbrev pub IsUntold : Profile → ℕ → Refusal → Table → Type 0
IsUntold profile last refusal table = (refusal ≡ Memory alloc_error) ⊎ HasNoReport profile last refusal table
