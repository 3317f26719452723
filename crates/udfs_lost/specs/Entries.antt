-- The entry at an information control block.
--     IsEntryAt view icb found            the bytes of the entry there, if one without a fault of its own is known
--     entries_at view icb                 what the directory there lists, as far as it can be read
--     AreEntriesRefused view icb error    why its entries are not returned
use Rattle.std.specs.Prelude.{◌≡◌, ◌≢◌, ◌<◌, ⊤, ℕ, List, length, Option, Some, None}
use Rattle.udfs_space.specs.Places.{View}
use Rattle.udfs_file.specs.Entries.{EntryFields, entry_of}
use Rattle.udfs_file.specs.Stretches.{IsStanding}
use Rattle.udfs_file.specs.declared.directories.DirEntry.{DirEntry}
use Rattle.udfs_walk.specs.Routes.{target_entries}
use Rattle.udfs_walk.specs.Targets.{Icb, entry, target}
use Rattle.udfs_walk.specs.UnnamedEntries.{address_of}
use Rattle.udfs_walk.specs.declared.answers.NodesError.{NodesError}
use Rattle.udfs_walk.specs.declared.answers.NodesError.TheVariants.{TooManyPaths, OutOfMemory}

-- the bytes of the entry at an information control block, if one without a fault of its own is known there
abbrev pub IsEntryAt : View → Icb → Option (List ℕ) → Type 0
IsEntryAt view icb None = (e : EntryFields) → target view (address_of icb) ≢ entry e
IsEntryAt view icb (Some bytes) = (target view (address_of icb) ≡ entry (entry_of bytes)) × IsStanding view icb.reference icb.block bytes

-- what the directory at an information control block lists, as far as it can be read; what is no directory lists nothing
unfoldable pub entries_at : View → Icb → List DirEntry
entries_at view icb = target_entries view (address_of icb) (target view (address_of icb))

-- the directory there lists more entries than a walk may have besides it
abbrev pub IsLargeAt : View → Icb → Type 0
IsLargeAt view icb = 65535 < length (entries_at view icb)

-- TooManyPaths comes only where the directory is that large; OutOfMemory may always come
abbrev pub AreEntriesRefused : View → Icb → NodesError → Type 0
AreEntriesRefused view icb TooManyPaths = IsLargeAt view icb
AreEntriesRefused view icb OutOfMemory = ⊤
