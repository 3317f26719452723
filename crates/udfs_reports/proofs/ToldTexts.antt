-- What is printed of the report of a store of blocks, or begun.
use Rattle.std.proofs.Common.{◌≡◌, ℕ, Bool, List, [], inr, sym}
use Rattle.std.proofs.lemmas.List.{append-nil}
use Rattle.udfs_lattice.specs.Tables.{Table, state_of}
use Rattle.udfs_reading.specs.Device.{Stream}
use Rattle.udfs_reading.specs.Writing.{Wrote}
use Rattle.udfs_volume.specs.declared.profiles.Profile.{Profile}
use Rattle.udfs_salvage.specs.Headline.{HeadlineBy}
use Rattle.udfs_salvage.specs.Printing.{Stopped}
use Rattle.udfs_salvage.specs.Reports.{Report, all_whole}
use Rattle.udfs_salvage.specs.StorePrinting.{leaves_as}
use Rattle.udfs_salvage.specs.declared.errors.PrintError.TheVariants.{Unread}
use Rattle.udfs_salvage.specs.declared.errors.RunError.{RunError}
use Rattle.udfs_remarks.specs.NoReports.{run_refusal_of}
use Rattle.udfs_common.specs.declared.refusal.Refusal.{Refusal}
use Rattle.udfs_reports.specs.Telling.{BeginsText, IsRefusedTelling, Tells}

module _ (IsText : Profile → Table → ℕ → Report → List ℕ → Type 0) (profile : Profile) (last : ℕ) (t : Table) (report : Report) (old new : Stream) (headline : HeadlineBy profile (state_of t) last report)
    (text : List ℕ) (is_text : IsText profile t last report text) where
  -- all of it is out
  pub text_told : (whole : Bool) → Wrote old new text → whole ≡ all_whole report.nodes → Tells IsText profile last old new whole t
  text_told whole wrote says = record { report = report; headline = headline; text = text; is_text = is_text; prints = wrote; says = says }

  -- the sink failed, or memory ran out
  pub text_stopped : (error : RunError) (refusal : Refusal) → Stopped old new text error → refusal ≡ run_refusal_of error → IsRefusedTelling IsText profile last old new refusal t
  text_stopped error refusal stopped told = inr (record { report = report; is_report = headline.report_is; text = text; is_text = is_text; error = error; stopped = stopped; told = told })

  -- a read failed
  pub text_begun : Stopped old new text (leaves_as Unread) → BeginsText IsText profile last old new t
  text_begun stopped = inr (record { report = report; is_report = headline.report_is; text = text; is_text = is_text; begun = stopped })

  -- an input had changed when all of it was out
  pub text_out : Wrote old new text → BeginsText IsText profile last old new t
  text_out wrote = text_begun (record {
    out = text;
    rest = [];
    given = wrote.given;
    whole = sym (append-nil text);
    count = wrote.kept;
  })
