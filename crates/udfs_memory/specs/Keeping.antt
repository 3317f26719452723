-- What files in memory keep tells what their log says.
--     has_name file path              a path is one of the names of a file
--     start_of stored                 the disk when the run began
--     call_in what                    the call that did this
--     found start kept path           the file that a path names, by what is kept
--     content_in kept number          the bytes of a new file, by what is kept
--     node_of found                   the file that a search found
use Rattle.std.proofs.Common.{Bor, Global}
use Rattle.std.specs.Prelude.{ℕ, List, [], ◌∷◌, length, Bool, true, false, Option, Some, None, String, if◌then◌else◌, bytes_eq, nat_eq, string_bytes}
use Rattle.udfs_calls.specs.Log.{Call, Node, Start, node_at}
use Rattle.udfs_calls.specs.Log.Call.{created, opened, synced, renamed, removed, folder_made, folder_synced, failed}
use Rattle.udfs_calls.specs.Log.Node.{there, made, folder}
use Rattle.udfs_memory.specs.declared.kept.Found.{Found}
use Rattle.udfs_memory.specs.declared.kept.Found.TheVariants.{Nothing, There, Made, Folder}
use Rattle.udfs_memory.specs.declared.kept.Kept.{Kept}
use Rattle.udfs_memory.specs.declared.kept.StoredFile.{StoredFile}
use Rattle.udfs_memory.specs.declared.kept.What.{What}
use Rattle.udfs_memory.specs.declared.kept.What.TheVariants.{Created, Opened, Synced, Renamed, Removed, FolderMade, FolderSynced}

-- bytes as they are now, if there are any
abbrev pub option_now : Option (Bor (List ℕ)) → Option (List ℕ)
option_now None = None
option_now (Some b) = Some b.now

-- a path is this second name, if there is one
abbrev pub is_second : Option (String Global) → List ℕ → Bool
is_second None p = false
is_second (Some twin) p = bytes_eq p (string_bytes twin)

-- a path is one of the names of a file
abbrev pub has_name : StoredFile → List ℕ → Bool
has_name file p = if bytes_eq p (string_bytes file.path) then true else is_second file.twin p

-- the number of the file of a path: how many come after it in the list
abbrev pub number_in : List StoredFile → List ℕ → Option ℕ
number_in [] p = None
number_in (file ∷ rest) p = if has_name file p then Some (length rest) else number_in rest p

-- the bytes of a file; not known of a folder or a device
abbrev pub known_bytes : StoredFile → Option (List ℕ)
known_bytes file = if file.is_file then Some file.bytes.items else None

-- the bytes of the file of a number
abbrev pub bytes_in : List StoredFile → ℕ → Option (List ℕ)
bytes_in [] number = None
bytes_in (file ∷ rest) number = if nat_eq number (length rest) then known_bytes file else bytes_in rest number

-- the disk when the run began
abbrev pub start_of : List StoredFile → Start
start_of stored = record { number_at = number_in stored; content = bytes_in stored }

-- the call that did this
abbrev pub call_in : What → Call
call_in (Created path) = created path.items
call_in (Opened path) = opened path.items
call_in (Synced number bytes) = synced number bytes.items
call_in (Renamed from to) = renamed from.items to.items
call_in (Removed path) = removed path.items
call_in (FolderMade path) = folder_made path.items
call_in (FolderSynced path) = folder_synced path.items

-- the file that a path names after a call, before which so many were made, by those that paths named before
abbrev pub node_after : ℕ → Call → (List ℕ → Option Node) → List ℕ → Option Node
node_after number (created q) before p = if bytes_eq p q then Some (made number) else before p
node_after number (opened q) before p = if bytes_eq p q then Some (made number) else before p
node_after number (folder_made q) before p = if bytes_eq p q then Some (folder number) else before p
node_after number (renamed from to) before p = if bytes_eq p to then before from else if bytes_eq p from then None else before p
node_after number (removed q) before p = if bytes_eq p q then None else before p
node_after number (synced m bytes) before p = before p
node_after number (folder_synced q) before p = before p
node_after number (failed call) before p = before p

-- the bytes of a new file after a call
abbrev pub content_after : Call → (ℕ → Option (List ℕ)) → ℕ → Option (List ℕ)
content_after (synced m bytes) before number = if nat_eq number m then Some bytes else before number
content_after (created q) before number = before number
content_after (opened q) before number = before number
content_after (folder_made q) before number = before number
content_after (renamed from to) before number = before number
content_after (removed q) before number = before number
content_after (folder_synced q) before number = before number
content_after (failed call) before number = before number

-- the file that a path names, by what is kept
abbrev pub found : Start → List Kept → List ℕ → Option Node
found start [] p = node_at start [] p
found start (kept ∷ earlier) p = node_after kept.number (call_in kept.what) (found start earlier) p

-- the bytes of a new file, by what is kept
abbrev pub content_in : List Kept → ℕ → Option (List ℕ)
content_in [] number = None
content_in (kept ∷ earlier) number = content_after (call_in kept.what) (content_in earlier) number

-- the file that a search found
abbrev pub node_of : Found → Option Node
node_of Nothing = None
node_of (There number) = Some (there number)
node_of (Made number) = Some (made number)
node_of (Folder number) = Some (folder number)
