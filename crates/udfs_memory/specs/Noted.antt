-- The calls of a history, by what was told to it.
--     call_of deed                    the call
--     noted calls outcome             the calls after one more, which was done or failed
use Rattle.std.specs.Prelude.{List, ◌∷◌}
use Rattle.udfs_calls.specs.Log.{Call}
use Rattle.udfs_calls.specs.Log.Call.{created, opened, synced, renamed, removed, folder_made, folder_synced, failed}
use Rattle.udfs_memory.specs.declared.deeds.Deed.{Deed}
use Rattle.udfs_memory.specs.declared.deeds.Deed.TheVariants.{Created, Opened, Synced, Renamed, Removed, FolderMade, FolderSynced}
use Rattle.udfs_memory.specs.declared.deeds.Outcome.{Outcome}
use Rattle.udfs_memory.specs.declared.deeds.Outcome.TheVariants.{Done, Failed}

-- the call that does this
abbrev pub call_of : Deed → Call
call_of (Created path) = created path.now
call_of (Opened path) = opened path.now
call_of (Synced number bytes) = synced number bytes.now
call_of (Renamed from to) = renamed from.now to.now
call_of (Removed path) = removed path.now
call_of (FolderMade path) = folder_made path.now
call_of (FolderSynced path) = folder_synced path.now

-- the calls after one more, which was done or failed
abbrev pub noted : List Call → Outcome → List Call
noted calls (Done deed) = call_of deed ∷ calls
noted calls (Failed deed) = failed (call_of deed) ∷ calls
