-- The laws of complete volumes, of records, of entries and of several tables. The laws of the join of two tables are in
-- TableLaws.
--     CompleteAgrees       the table that knows all of a volume agrees with it
--     CompleteKnows        and knows exactly the blocks up to the last one, with the volume's bytes
--     AscendingContains    the ascending list of some numbers has these numbers
--     EntriesRise          the entries of a table rise
--     EntriesMakeTable     and the table is that of its entries
--     EntriesTellStates    they are the blocks of which the table says something, each with what it says
--     RisingAreEntries     rising entries are those of their table
--     RisingMakeTable      which is one that there can be
--     FewEntries           and they are no more than there are blocks
--     SetMakesTable        the table of records depends on their set alone
--     TablesMakeJoin       the join of tables on the set of them
--     RecordsMakeJoin      and of the tables of lists of records it is the table of all the records
--     ForgettingCommutes   to forget a block commutes with joining a table that says nothing of it
--     ForgettingAllCommutes    and so with several blocks
--     SettlingCommutes         and so with the blocks in conflict
--     NamedAreContained    a block is named where it is one of the list
--     RecordAdded, EntryAdded, TableAdded, EntryBefore       one more is joined in
use Rattle.std.specs.Prelude.{◌≡◌, ◌≢◌, ◌↔◌, ◌≤◌, ◌==◌, ℕ, true, List, [], ◌∷◌, ◌++◌, cond, length, map, Contains}
use Rattle.udfs_lattice.specs.declared.facts.Fact.TheVariants.{Unknown, Known, Conflict}
use Rattle.udfs_lattice.specs.States.{State, join_of}
use Rattle.udfs_lattice.specs.Tables.{Table, state_of, entries_of, join_tables, one_entry, one_record, IsTable, IsForgotten, AreForgotten, IsWithoutConflicts, is_named}
use Rattle.udfs_lattice.specs.Records.{Record, SameRecords, SameTables, all_records, join_all, table_of, table_of_entries, RisesFrom}
use Rattle.udfs_lattice.specs.Volumes.{Volume, Agrees, ascending, complete}

-- the table that knows all of a volume agrees with it
abbrev pub CompleteAgrees : Type 0
CompleteAgrees = (volume : Volume) (last : ℕ) → Agrees (complete volume last) volume last

-- what it knows are the blocks up to the last one, each with the volume's bytes
abbrev pub CompleteKnows : Type 0
CompleteKnows = (volume : Volume) (last n : ℕ) (bytes : List ℕ) → (complete volume last n ≡ Known bytes) ↔ ((n ≤ last) × (bytes ≡ volume n))

-- the ascending list of some numbers has these numbers and no other
abbrev pub AscendingContains : Type 0
AscendingContains = (ns : List ℕ) (n : ℕ) → Contains (ascending ns) n ↔ Contains ns n

-- the block numbers of the entries rise
abbrev pub EntriesRise : Type 0
EntriesRise = (t : Table) → IsTable t → RisesFrom 0 (entries_of t)

-- a table is that of its entries
abbrev pub EntriesMakeTable : Type 0
EntriesMakeTable = (t : Table) → IsTable t → table_of_entries (entries_of t) ≡ t

-- a block is an entry with this state where the table says this of it, and not where it says nothing
abbrev pub EntriesTellStates : Type 0
EntriesTellStates = (t : Table) → IsTable t → (n : ℕ) (s : State) → Contains (entries_of t) (n, s) ↔ ((state_of t n ≡ s) × (s ≢ Unknown))

-- rising entries are those of their table
abbrev pub RisingAreEntries : Type 0
RisingAreEntries = (es : List (ℕ × State)) → RisesFrom 0 es → entries_of (table_of_entries es) ≡ es

-- and that table is one that there can be
abbrev pub RisingMakeTable : Type 0
RisingMakeTable = (es : List (ℕ × State)) → RisesFrom 0 es → IsTable (table_of_entries es)

-- there are no more entries than blocks
abbrev pub FewEntries : Type 0
FewEntries = (es : List (ℕ × State)) → RisesFrom 0 es → length es ≤ 4194304

-- ---- records, and several tables

-- neither the order of records nor how often each comes is in their table
abbrev pub SetMakesTable : Type 0
SetMakesTable = (rs ss : List Record) → SameRecords rs ss → table_of rs ≡ table_of ss

-- neither the order of tables nor how often each comes is in their join
abbrev pub TablesMakeJoin : Type 0
TablesMakeJoin = (ts us : List Table) → SameTables ts us → join_all ts ≡ join_all us

-- the join of the tables of several lists of records is the table of all of them
abbrev pub RecordsMakeJoin : Type 0
RecordsMakeJoin = (rss : List (List Record)) → join_all (map table_of rss) ≡ table_of (all_records rss)

-- ---- one more

-- a record after the others is joined in
abbrev pub RecordAdded : Type 0
RecordAdded = (rs : List Record) (n : ℕ) (bytes : List ℕ) → table_of (rs ++ (n, bytes) ∷ []) ≡ join_tables (table_of rs) (one_record n bytes)

-- and so is an entry
abbrev pub EntryAdded : Type 0
EntryAdded = (es : List (ℕ × State)) (n : ℕ) (s : State) → table_of_entries (es ++ (n, s) ∷ []) ≡ join_tables (table_of_entries es) (one_entry n s)

-- and a table
abbrev pub TableAdded : Type 0
TableAdded = (ts : List Table) (t : Table) → join_all (ts ++ t ∷ []) ≡ join_tables (join_all ts) t

-- an entry before the others joins its state to that of its block, and to that of no other
abbrev pub EntryBefore : Type 0
EntryBefore = (e : ℕ × State) (es : List (ℕ × State)) (q : ℕ)
    → state_of (table_of_entries (e ∷ es)) q ≡ join_of (cond (q == e.0) e.1 Unknown) (state_of (table_of_entries es) q)

-- what a table that says nothing of a block adds is added before or after the block is forgotten
abbrev pub ForgettingCommutes : Type 0
ForgettingCommutes = (t u v w : Table) (n : ℕ) → IsForgotten t n u → state_of v n ≡ Unknown → IsForgotten (join_tables t v) n w → w ≡ join_tables u v

-- and so for several blocks
abbrev pub ForgettingAllCommutes : Type 0
ForgettingAllCommutes = (t u v w : Table) (ns : List ℕ) → AreForgotten t ns u → ((n : ℕ) → Contains ns n → state_of v n ≡ Unknown) → AreForgotten (join_tables t v) ns w → w ≡ join_tables u v

-- and for the blocks in conflict, where the other table says nothing of those that are so in the join
abbrev pub SettlingCommutes : Type 0
SettlingCommutes = (t u v w : Table) → IsWithoutConflicts t u → ((n : ℕ) → state_of (join_tables t v) n ≡ Conflict → state_of v n ≡ Unknown) → IsWithoutConflicts (join_tables t v) w → w ≡ join_tables u v

-- the blocks that are named are those of the list
abbrev pub NamedAreContained : Type 0
NamedAreContained = (ns : List ℕ) (n : ℕ) → (is_named ns n ≡ true) ↔ Contains ns n
