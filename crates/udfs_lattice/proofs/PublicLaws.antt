-- The laws of this crate that proofs above it use. Each has the statement of its name, which the function named before it in
-- src/laws.rt ensures.
use Rattle.std.proofs.Common.{List, ℕ, ◌↔◌, ◌+◌, ◌≤◌, length, arith}
use Rattle.udfs_lattice.specs.Laws.{AscendingContains, CompleteAgrees, CompleteKnows, EntriesRise, EntriesMakeTable, EntriesTellStates, RisingAreEntries, RisingMakeTable, FewEntries, SetMakesTable, TablesMakeJoin, RecordsMakeJoin, RecordAdded, EntryAdded, TableAdded, EntryBefore}
use Rattle.udfs_lattice.specs.Records.{Record, IsTableOf, table_of}
use Rattle.udfs_lattice.specs.Volumes.{ascending}
use Rattle.udfs_lattice.proofs.Inclusion.{Includes, contained_alike}
use Rattle.udfs_lattice.proofs.VolumeLaws as volumes
use Rattle.udfs_lattice.proofs.EntryLaws as entries
use Rattle.udfs_lattice.proofs.EntryStates as states
use Rattle.udfs_lattice.proofs.RecordLaws as records
use Rattle.udfs_lattice.proofs.JoinLaws as joins

-- complete_volume_agrees
pub complete_agrees : CompleteAgrees
complete_agrees = volumes.complete_agrees

pub complete_knows : CompleteKnows
complete_knows = volumes.complete_knows

-- table_of_records
pub table_is_of_records : (rs : List Record) → IsTableOf rs (table_of rs)
table_is_of_records = records.IsTableOf-table_of

-- ascending_has_the_same_numbers
pub ascending_contains : AscendingContains
ascending_contains ns n = contained_alike (ascending ns) ns n (volumes.includes_ascending ns n)

pub ascending_includes : (ns : List ℕ) (n : ℕ) → Includes (ascending ns) n ↔ Includes ns n
ascending_includes = volumes.includes_ascending

-- entries_make_the_table
pub entries_rise : EntriesRise
entries_rise = entries.rises-entries_of

pub entries_make_table : EntriesMakeTable
entries_make_table = entries.table_of_entries-entries_of

pub entries_tell_states : EntriesTellStates
entries_tell_states = states.entries_tell_states

pub rising_are_entries : RisingAreEntries
rising_are_entries = entries.entries_of-rising 0

pub rising_make_table : RisingMakeTable
rising_make_table = entries.IsTable-rising 0

pub few_entries : FewEntries
few_entries es rises = let few : 0 + length es ≤ 4194304 = entries.few_entries 0 es (omega arith) rises in omega (arith, few)

-- table_of_set
pub set_makes_table : SetMakesTable
set_makes_table = records.table_of-same

-- join_of_all
pub tables_make_join : TablesMakeJoin
tables_make_join = joins.join_all-same

pub records_make_join : RecordsMakeJoin
records_make_join = joins.join_all-records

-- one_more_is_joined
pub record_added : RecordAdded
record_added = records.table_of-push

pub entry_added : EntryAdded
entry_added = entries.table_of_entries-push

pub table_added : TableAdded
table_added = joins.join_all-push

pub entry_before : EntryBefore
entry_before = entries.state_of-cons
