-- What is out where a report was not printed whole.
use Rattle.std.proofs.Common.{◌≡◌, ◌⊎◌, alloc_error, inl, inr, ℕ, Bool, List}
use Rattle.udfs_lattice.specs.Tables.{Table, state_of}
use Rattle.udfs_reading.specs.Device.{Stream}
use Rattle.udfs_reading.specs.Writing.{Failed, Wrote}
use Rattle.udfs_volume.specs.declared.profiles.Profile.{Profile}
use Rattle.udfs_salvage.specs.Printing.{Stopped}
use Rattle.udfs_salvage.specs.Reports.{IsReportBy, Report}
use Rattle.udfs_salvage.specs.declared.errors.RunError.{RunError}
use Rattle.udfs_common.specs.Refusing.{IsUnput}
use Rattle.udfs_remarks.specs.NoReports.{run_refusal_of}
use Rattle.udfs_common.specs.declared.refusal.Refusal.{Refusal}
use Rattle.udfs_common.specs.declared.refusal.Refusal.TheVariants.{Memory, Output}
use Rattle.udfs_words.specs.declared.request.RereadRequest.{RereadRequest}
use Rattle.udfs_reports.specs.Rereading.{IsDomain, IsRefusedDomain}
use Rattle.udfs_reports.specs.Telling.{IsRefusedTelling}

-- what is said of the line of a mapfile that was to be printed
pub unput : (Unmade : Type 0) (r : RereadRequest) (last : ℕ) (old new : Stream) (refusal : Refusal) (table : Table) (bytes text : List ℕ) (whole : Bool) → IsDomain r last table bytes text whole →
    ((new ≡ old) × (refusal ≡ Memory alloc_error)) ⊎ ((refusal ≡ Output) × Failed old new text) ⊎ (Wrote old new text × IsUnput Unmade refusal) → IsRefusedDomain Unmade r last old new refusal table
unput Unmade r last old new refusal table bytes text whole is (inl none) = inl (none.0, inl (inl none.1))
unput Unmade r last old new refusal table bytes text whole is (inr put) = inr (bytes, text, whole, is, put)
