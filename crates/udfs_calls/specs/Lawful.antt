-- Calls that can follow one another: a crash after them leaves something.
--     can_follow start calls call      this call can be made after these
--     IsLawful start calls             each call could be made when it was
--     IsLawfulLog log                  the same of a log, where it is known
--     SomeCrash                        after such calls a crash leaves something
use Rattle.std.specs.Prelude.{◌≡◌, ℕ, List, [], ◌∷◌, Option, Some, None, ⊤}
use Rattle.udfs_calls.specs.Disk.{Disk}
use Rattle.udfs_calls.specs.Log.{Call, Log, Start, is_created, new_content, node_at, outcome}
use Rattle.udfs_calls.specs.Log.Call.{created, opened, synced, renamed, removed, folder_made, folder_synced, failed}

-- This call can be made after these: a new file or folder is made where nothing is, and a new file is synced once, when all is written.
abbrev pub can_follow : Start → List Call → Call → Type 0
can_follow start calls (created q) = node_at start calls q ≡ None
can_follow start calls (folder_made q) = node_at start calls q ≡ None
can_follow start calls (synced number bytes) = is_created calls number × (new_content calls number ≡ None)
can_follow start calls (opened q) = ⊤
can_follow start calls (renamed from to) = ⊤
can_follow start calls (removed q) = ⊤
can_follow start calls (folder_synced q) = ⊤
can_follow start calls (failed call) = ⊤

-- each call could be made when it was
abbrev pub IsLawful : Start → List Call → Type 0
IsLawful start [] = ⊤
IsLawful start (call ∷ calls) = can_follow start calls call × IsLawful start calls

-- the same of a log, where it is known
abbrev pub IsLawfulLog : Option Log → Type 0
IsLawfulLog None = ⊤
IsLawfulLog (Some log) = IsLawful log.start log.calls

-- after calls that can follow one another, a crash leaves something
abbrev pub SomeCrash : Type 0
SomeCrash = (start : Start) (calls : List Call) → IsLawful start calls → (c : Disk) × outcome start calls c
