-- What the calls of a run did to a disk, and what follows of that: what paths hold, and what a crash may leave.
--     Node                            a file, as the disk counts it (an inode), whatever its paths are
--     Call                            one call that changed the disk, or failed
--     Log                             the disk when the run began, and the calls since, the newest first
--     node_at log path                the file that a path names
--     content log node                the bytes of a file, where they are known
--     held log path                   what a path holds
--     kept log path c                 what a crash may leave of what is at a path, were its name on the disk
--     is_named calls folder           whether the name of a folder is on the disk
--     names_folder log path           whether a path names a folder that was made by these calls
--     IsOpen log number               the new file of this number was made and not synced yet
--     IsAt log path number            the new file of this number is at this path
--     IsFresh log                     no call was made yet
--     outcome log disk                what a crash may leave at all paths
--     outcome_since log moment disk   what a crash might have left since then
use Rattle.std.specs.Prelude.{◌≡◌, ◌≢◌, ◌⊎◌, ℕ, ◌≤◌, Bool, true, false, List, [], ◌∷◌, length, Option, Some, None, if◌then◌else◌, bytes_eq, nat_eq, ⊤}
use Rattle.udfs_calls.specs.Disk.{Disk, Same, SameBut, Moved, Gone, After}
use Rattle.udfs_calls.specs.Paths.{parent}

-- A file, as the disk counts it, whatever its paths are: one that was there when the run began, or a file or a folder that was made by the call before which there were so many.
pub data Node : Type 0 where
  there : ℕ → Node
  made : ℕ → Node
  folder : ℕ → Node

-- One call that changed the disk. A path is a name without links.
--     created path            a new file is at a path that nothing had
--     opened path             what is at a path is written in place: a device or a pipe
--     synced number bytes     the new file of this number has these bytes, and they are on the disk
--     renamed from to         the file of one path is at the other, in the place of what was there
--     removed path            the path names nothing
--     folder_made path        a new folder is at a path that nothing had
--     folder_synced path      the names in the folder are on the disk
--     failed call             the call failed: it did nothing, and a crash may still show it done
pub data Call : Type 0 where
  created : List ℕ → Call
  opened : List ℕ → Call
  synced : ℕ → List ℕ → Call
  renamed : List ℕ → List ℕ → Call
  removed : List ℕ → Call
  folder_made : List ℕ → Call
  folder_synced : List ℕ → Call
  failed : Call → Call

-- The disk when a run began. All of it is on the disk, names too.
pub record Start : Type 0 where
  pub number_at : List ℕ → Option ℕ  -- the file that a path names
  pub content : ℕ → Option (List ℕ)  -- its bytes; not known of a folder or a device

-- the file that a path names
abbrev pub node_at : Start → List Call → List ℕ → Option Node
node_at start [] p = first (start.number_at p)
  where
    first : Option ℕ → Option Node
    first None = None
    first (Some number) = Some (there number)
node_at start (created q ∷ calls) p = if bytes_eq p q then Some (made (length calls)) else node_at start calls p
node_at start (opened q ∷ calls) p = if bytes_eq p q then Some (made (length calls)) else node_at start calls p
node_at start (folder_made q ∷ calls) p = if bytes_eq p q then Some (folder (length calls)) else node_at start calls p
node_at start (renamed from to ∷ calls) p = if bytes_eq p to then node_at start calls from else if bytes_eq p from then None else node_at start calls p
node_at start (removed q ∷ calls) p = if bytes_eq p q then None else node_at start calls p
node_at start (synced number bytes ∷ calls) p = node_at start calls p
node_at start (folder_synced q ∷ calls) p = node_at start calls p
node_at start (failed call ∷ calls) p = node_at start calls p

-- the bytes of the new file of this number: known once it was synced
abbrev pub new_content : List Call → ℕ → Option (List ℕ)
new_content [] number = None
new_content (synced m bytes ∷ calls) number = if nat_eq number m then Some bytes else new_content calls number
new_content (created q ∷ calls) number = new_content calls number
new_content (opened q ∷ calls) number = new_content calls number
new_content (folder_made q ∷ calls) number = new_content calls number
new_content (renamed from to ∷ calls) number = new_content calls number
new_content (removed q ∷ calls) number = new_content calls number
new_content (folder_synced q ∷ calls) number = new_content calls number
new_content (failed call ∷ calls) number = new_content calls number

-- the bytes of a file, where they are known
abbrev pub content : Start → List Call → Node → Option (List ℕ)
content start calls (there number) = start.content number
content start calls (made number) = new_content calls number
content start calls (folder number) = None

-- what is known to be held where these bytes are
abbrev pub told_bytes : Option (List ℕ) → Option (Option (List ℕ))
told_bytes None = None
told_bytes (Some xs) = Some (Some xs)

-- what a path holds that names this file: no file, some bytes, or what is not known. A new folder is no file.
abbrev pub held_by : (Node → Option (List ℕ)) → Option Node → Option (Option (List ℕ))
held_by bytes None = Some None
held_by bytes (Some (there number)) = told_bytes (bytes (there number))
held_by bytes (Some (made number)) = told_bytes (bytes (made number))
held_by bytes (Some (folder number)) = Some None

-- what a path holds
abbrev pub held : Start → List Call → List ℕ → Option (Option (List ℕ))
held start calls p = held_by (content start calls) (node_at start calls p)

-- what a crash may leave where this is held: anything where that is not known
abbrev pub kept_of : Option (Option (List ℕ)) → Option (List ℕ) → Type 0
kept_of None c = ⊤
kept_of (Some h) c = c ≡ h

-- what a crash may leave of what is at a path, were its name on the disk
abbrev pub kept : Start → List Call → List ℕ → Option (List ℕ) → Type 0
kept start calls p c = kept_of (held start calls p) c

-- whether the name of a folder is on the disk: it was there when the run began, or its own folder was synced since it was made, when the name of that one was on the disk
abbrev pub is_named : List Call → List ℕ → Bool
is_named [] f = true
is_named (folder_made g ∷ calls) f = if bytes_eq f g then false else is_named calls f
is_named (folder_synced g ∷ calls) f = if bytes_eq (parent f) g then (if is_named calls g then true else is_named calls f) else is_named calls f
is_named (created q ∷ calls) f = is_named calls f
is_named (opened q ∷ calls) f = is_named calls f
is_named (synced number bytes ∷ calls) f = is_named calls f
is_named (renamed from to ∷ calls) f = is_named calls f
is_named (removed q ∷ calls) f = is_named calls f
is_named (failed call ∷ calls) f = is_named calls f

-- a file may be made where none is; where one is, nothing changes
abbrev pub Made : Option Node → List ℕ → Disk → Disk → Type 0
Made None q d c = SameBut q d c
Made (Some node) q d c = Same d c

-- what a crash may show of a call from then on: a new file torn in any way, a name that comes or goes
abbrev pub shown : Start → List Call → Call → Disk → Disk → Type 0
shown start calls (created q) = Made (node_at start calls q) q
shown start calls (opened q) = SameBut q
shown start calls (synced number bytes) = Same
shown start calls (renamed from to) = Moved from to (kept start calls from)
shown start calls (removed q) = Gone q
shown start calls (folder_made q) = Same
shown start calls (folder_synced q) = Same
shown start calls (failed call) = shown start calls call

-- what a crash can no longer take: where a folder's own name is on the disk and it was synced, each path in it leaves what it held then
abbrev pub settled : Start → List Call → Call → Disk → Type 0
settled start calls (folder_synced f) c = is_named calls f ≡ true → (p : List ℕ) → parent p ≡ f → kept start calls p (c p)
settled start calls (created q) c = ⊤
settled start calls (opened q) c = ⊤
settled start calls (synced number bytes) c = ⊤
settled start calls (renamed from to) c = ⊤
settled start calls (removed q) c = ⊤
settled start calls (folder_made q) c = ⊤
settled start calls (failed call) c = ⊤

-- what a crash may leave at all paths
abbrev pub outcome : Start → List Call → Disk → Type 0
outcome start [] c = (p : List ℕ) → kept start [] p (c p)
outcome start (call ∷ calls) c = After (outcome start calls) (shown start calls call) c × settled start calls call c

-- what a crash might have left when there were so many calls, or later
abbrev pub outcome_since : Start → List Call → ℕ → Disk → Type 0
outcome_since start [] t c = outcome start [] c
outcome_since start (call ∷ calls) t c = outcome start (call ∷ calls) c ⊎ ((t ≤ length calls) × outcome_since start calls t c)

-- the disk when a run began, and the calls since, the newest first
pub record Log : Type 0 where
  pub start : Start
  pub calls : List Call

-- a log that is known, after one call more
abbrev pub after : Call → Option Log → Option Log
after call None = None
after call (Some log) = Some (record { start = log.start; calls = call ∷ log.calls })

-- A log after a file was synced: what is known of a new file is told, and of nothing else.
abbrev pub after_sync : Option ℕ → Option (List ℕ) → Option Log → Option Log
after_sync None bytes log = log
after_sync (Some number) None log = log
after_sync (Some number) (Some bytes) log = after (synced number bytes) log

-- so many calls were made; 0 where the log is not known
abbrev pub moment_of : Option Log → ℕ
moment_of None = 0
moment_of (Some log) = length log.calls

-- the file that a path names, where the log is known
abbrev pub Names : Option Log → List ℕ → Option Node → Type 0
Names None p entry = ⊤
Names (Some log) p entry = node_at log.start log.calls p ≡ entry

-- a path names something, where the log is known
abbrev pub NamesSome : Option Log → List ℕ → Type 0
NamesSome None p = ⊤
NamesSome (Some log) p = node_at log.start log.calls p ≢ None

-- what a path holds, where the log is known
abbrev pub holds : Option Log → List ℕ → Option (Option (List ℕ))
holds None p = None
holds (Some log) p = held log.start log.calls p

-- the number of a file that is made now, where the log is known
abbrev pub number_now : Option Log → Option ℕ
number_now None = None
number_now (Some log) = Some (length log.calls)

-- it is a new folder
abbrev pub is_folder : Option Node → Bool
is_folder None = false
is_folder (Some (there number)) = false
is_folder (Some (made number)) = false
is_folder (Some (folder number)) = true

-- a path names a folder that was made by these calls, as far as is known
abbrev pub names_folder : Option Log → List ℕ → Bool
names_folder None p = false
names_folder (Some log) p = is_folder (node_at log.start log.calls p)

-- a file of this number was made new
abbrev pub is_created : List Call → ℕ → Type 0
is_created [] number = ⊥
is_created (created q ∷ calls) number = (number ≡ length calls) ⊎ is_created calls number
is_created (opened q ∷ calls) number = is_created calls number
is_created (synced m bytes ∷ calls) number = is_created calls number
is_created (renamed from to ∷ calls) number = is_created calls number
is_created (removed q ∷ calls) number = is_created calls number
is_created (folder_made q ∷ calls) number = is_created calls number
is_created (folder_synced q ∷ calls) number = is_created calls number
is_created (failed call ∷ calls) number = is_created calls number

-- where it is a new file, it was made by these calls and not synced yet
abbrev pub IsOpen : Option Log → Option ℕ → Type 0
IsOpen None number = ⊤
IsOpen (Some log) None = ⊤
IsOpen (Some log) (Some number) = is_created log.calls number × (new_content log.calls number ≡ None)

-- where it is a new file, it was made by these calls and is at this path
abbrev pub IsAt : Option Log → List ℕ → Option ℕ → Type 0
IsAt None p number = ⊤
IsAt (Some log) p None = ⊤
IsAt (Some log) p (Some number) = is_created log.calls number × (node_at log.start log.calls p ≡ Some (made number))

-- no call was made yet, as far as is known
abbrev pub IsFresh : Option Log → Type 0
IsFresh None = ⊤
IsFresh (Some log) = log.calls ≡ []

-- the names of all folders but one are on the disk
abbrev pub AreNamed : Option Log → Option (List ℕ) → Type 0
AreNamed None but = ⊤
AreNamed (Some log) but = (f : List ℕ) → but ≢ Some f → is_named log.calls f ≡ true
