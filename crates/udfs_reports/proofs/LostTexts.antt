-- What is printed of a report of a store of blocks and of what is lost of it, or begun.
use Rattle.std.proofs.Common.{◌≡◌, ℕ, Bool, List, [], inr, sym}
use Rattle.std.proofs.lemmas.List.{append-nil}
use Rattle.udfs_lattice.specs.Tables.{Table, state_of}
use Rattle.udfs_reading.specs.Device.{Stream}
use Rattle.udfs_reading.specs.Writing.{Wrote}
use Rattle.udfs_volume.specs.declared.profiles.Profile.{Profile}
use Rattle.udfs_lost.specs.declared.trees.LostTree.{LostTree}
use Rattle.udfs_salvage.specs.Headline.{HeadlineBy}
use Rattle.udfs_salvage.specs.Printing.{Stopped}
use Rattle.udfs_salvage.specs.Reports.{Report, all_whole}
use Rattle.udfs_salvage.specs.StorePrinting.{leaves_as}
use Rattle.udfs_salvage.specs.declared.errors.PrintError.TheVariants.{Unread}
use Rattle.udfs_salvage.specs.declared.errors.RunError.{RunError}
use Rattle.udfs_overview.specs.FullLists.{full_list}
use Rattle.udfs_overview.specs.LostTrees.{AreLostBy}
use Rattle.udfs_overview.specs.declared.node_list.ListForm.{ListForm}
use Rattle.udfs_remarks.specs.NoReports.{run_refusal_of}
use Rattle.udfs_common.specs.declared.refusal.Refusal.{Refusal}
use Rattle.udfs_reports.specs.LostListing.{BeginsLost, IsRefusedLost, TellsLost, place}

module _ (form : ListForm) (deleted : Bool) (profile : Profile) (last : ℕ) (t : Table) (report : Report) (old new : Stream) (headline : HeadlineBy profile (state_of t) last report)
    (trees : List LostTree) (are : AreLostBy deleted (place profile t last report) trees) where
  -- all of it is out
  pub lost_told : (whole : Bool) → Wrote old new (full_list form deleted (state_of t) (place profile t last report) report trees) → whole ≡ all_whole report.nodes → TellsLost form deleted profile last old new whole t
  lost_told whole wrote says = record { report = report; headline = headline; trees = trees; are_lost = are; prints = wrote; says = says }

  -- the sink failed, or memory ran out
  pub lost_stopped : (error : RunError) (refusal : Refusal) → Stopped old new (full_list form deleted (state_of t) (place profile t last report) report trees) error → refusal ≡ run_refusal_of error → IsRefusedLost form deleted profile last old new refusal t
  lost_stopped error refusal stopped told = inr (record { report = report; is_report = headline.report_is; trees = trees; are_lost = are; error = error; stopped = stopped; told = told })

  -- a read failed
  pub lost_begun : Stopped old new (full_list form deleted (state_of t) (place profile t last report) report trees) (leaves_as Unread) → BeginsLost form deleted profile last old new t
  lost_begun stopped = inr (record { report = report; is_report = headline.report_is; trees = trees; are_lost = are; begun = stopped })

  -- an input had changed when all of it was out
  pub lost_out : Wrote old new (full_list form deleted (state_of t) (place profile t last report) report trees) → BeginsLost form deleted profile last old new t
  lost_out wrote = lost_begun (record {
    out = full_list form deleted (state_of t) (place profile t last report) report trees;
    rest = [];
    given = wrote.given;
    whole = sym (append-nil (full_list form deleted (state_of t) (place profile t last report) report trees));
    count = wrote.kept;
  })
