-- The table of a set of records, of a list of entries, and the join of several tables.
use Rattle.std.specs.Prelude.{◌≡◌, ◌≢◌, ℕ, ◌+◌, ◌≤◌, List, [], ◌∷◌, ◌++◌, ◌↔◌, Contains}
use Rattle.udfs_lattice.specs.declared.facts.Fact.TheVariants.{Unknown, Known, Conflict}
use Rattle.udfs_lattice.specs.States.{State, IsBlock}
use Rattle.udfs_lattice.specs.Tables.{Table, state_of, one_record, one_entry, empty_table, join_tables, IsTableBelow}

-- a block number, and the bytes of that block in one reading
abbrev pub Record : Type 0
Record = ℕ × List ℕ

-- what the records say of block n: Unknown where none names it, Known where all that name it say the same bytes, Conflict where two differ
abbrev pub IsStateOf : List Record → ℕ → State → Type 0
IsStateOf rs n Unknown = (bytes : List ℕ) → ¬ (Contains rs (n, bytes))
IsStateOf rs n (Known bytes) = Contains rs (n, bytes) × ((other : List ℕ) → Contains rs (n, other) → other ≡ bytes)
IsStateOf rs n Conflict = (a : List ℕ) × (b : List ℕ) × Contains rs (n, a) × Contains rs (n, b) × (a ≢ b)

-- at each block the table says what the records say
abbrev pub IsTableOf : List Record → Table → Type 0
IsTableOf rs t = (n : ℕ) → IsStateOf rs n (state_of t n)

-- the same records, in any order and however often
abbrev pub SameRecords : List Record → List Record → Type 0
SameRecords rs ss = (r : Record) → Contains rs r ↔ Contains ss r

-- each record joined in, from the last to the first
abbrev pub table_of : List Record → Table
table_of [] = empty_table
table_of (r ∷ rs) = join_tables (one_record r.0 r.1) (table_of rs)

-- ---- entries

-- each entry's state joined in, from the last to the first
abbrev pub table_of_entries : List (ℕ × State) → Table
table_of_entries [] = empty_table
table_of_entries (e ∷ es) = join_tables (one_entry e.0 e.1) (table_of_entries es)

-- what a table can say of block n, if it is not Unknown there
abbrev pub IsEntry : ℕ → State → Type 0
IsEntry n Unknown = ⊥
IsEntry n (Known bytes) = (n ≤ 4194303) × IsBlock bytes
IsEntry n Conflict = n ≤ 4194303

-- the block numbers rise strictly from `low` on, and each state is one that a table can have there, not Unknown
abbrev pub RisesFrom : ℕ → List (ℕ × State) → Type 0
RisesFrom low [] = Unit {0}
RisesFrom low (e ∷ es) = (low ≤ e.0) × IsEntry e.0 e.1 × RisesFrom (e.0 + 1) es

-- ---- several tables

-- the join of tables
abbrev pub join_all : List Table → Table
join_all [] = empty_table
join_all (t ∷ ts) = join_tables t (join_all ts)

-- the least table above all of these
pub record IsLeastAbove (ts : List Table) (u : Table) : Type 0 where
  pub above : (t : Table) → Contains ts t → IsTableBelow t u
  pub least : (v : Table) → ((t : Table) → Contains ts t → IsTableBelow t v) → IsTableBelow u v

-- the same tables, in any order and however often
abbrev pub SameTables : List Table → List Table → Type 0
SameTables ts us = (t : Table) → Contains ts t ↔ Contains us t

-- the records of several lists, one list after the other
abbrev pub all_records : List (List Record) → List Record
all_records [] = []
all_records (rs ∷ rss) = rs ++ all_records rss
