-- A table is a map from block numbers to states, in which an absent block is Unknown.
use Rattle.std.specs.Prelude.{◌≡◌, ℕ, ◌≤◌, ◌==◌, ◌||◌, Bool, true, false, cond, List, [], ◌∷◌, map, count_by}
use Rattle.std.specs.Prelude.{Option, None, Some}
use Rattle.std.specs.Ordering.{nat_cmp}
use Rattle.std.specs.Coded.{Coded, coded_ℕ, coded_list, coded_option}
use Rattle.std.specs.FinMap as fin
use Rattle.std.specs.Str.{bytes_eq}
use Rattle.std.proofs.Common.{sym, subst, ◌∙◌, refl}
use Rattle.std.proofs.lemmas.Bool.{eqb-true}
use Rattle.udfs_lattice.specs.declared.facts.Fact.TheVariants.{Unknown, Known, Conflict}
use Rattle.udfs_lattice.specs.States.{State, IsBelow, join_of, IsBlock, is_known, is_conflict}

-- what is known of a block that is not Unknown: its bytes, or `None` where two readings differ
abbrev pub Held : Type 0
Held = Option (List ℕ)

-- from block numbers to bytes, or to "in conflict"; a block that is not in it is Unknown
abbrev pub Table : Type 0
Table = fin.FinMap nat_cmp Held

-- a table as a number, so that computing can distinguish two tables
abbrev pub table_code : Coded Table
table_code = fin.code coded_ℕ (coded_option (coded_list coded_ℕ))

-- the state of a block that the table holds
abbrev pub fact_held : Held → State
fact_held (Some bytes) = Known bytes
fact_held None = Conflict

-- the state of a block, held by the table or not
abbrev pub fact_found : Option Held → State
fact_found None = Unknown
fact_found (Some held) = fact_held held

-- the state of block n
abbrev pub state_of : Table → ℕ → State
state_of t n = fact_found (fin.get t n)

-- the blocks that are not Unknown, ascending, each with its state
abbrev pub entries_of : Table → List (ℕ × State)
entries_of t = map (λ e. (e.0, fact_held e.1)) (fin.entries t)

-- how many blocks are Known
abbrev pub known_count : Table → ℕ
known_count t = count_by (λ e. is_known e.1) (entries_of t)

-- how many blocks are in Conflict
abbrev pub conflict_count : Table → ℕ
conflict_count t = count_by (λ e. is_conflict e.1) (entries_of t)

-- at each block the state in t is below the state in u
abbrev pub IsTableBelow : Table → Table → Type 0
IsTableBelow t u = (n : ℕ) → IsBelow (state_of t n) (state_of u n)

-- the states that block n may have: Unknown, and up to block 4,194,303 also Known with the bytes of one block, or Conflict
abbrev pub IsStateAt : ℕ → State → Type 0
IsStateAt n Unknown = Unit {0}
IsStateAt n (Known bytes) = (n ≤ 4194303) × IsBlock bytes
IsStateAt n Conflict = n ≤ 4194303

-- the join of two states that a block may have is a state that it may have
pub IsStateAt-join_of : (n : ℕ) (x y : State) → IsStateAt n x → IsStateAt n y → IsStateAt n (join_of x y)
IsStateAt-join_of n Unknown y p q = q
IsStateAt-join_of n (Known a) Unknown p q = p
IsStateAt-join_of n (Known a) (Known b) p q = elim (bytes_eq a b) as (λ r. IsStateAt n (cond r (Known a) Conflict)) [ true ↦ p | false ↦ p.0 ]
IsStateAt-join_of n (Known a) Conflict p q = q
IsStateAt-join_of n Conflict y p q = p

-- the tables that there are: blocks 0 to 4,194,303 of 2048 bytes each
abbrev pub IsTable : Table → Type 0
IsTable t = (n : ℕ) → IsStateAt n (state_of t n)

-- every block is Unknown
abbrev pub empty_table : Table
empty_table = fin.empty

-- this block is known, and no other
abbrev pub one_record : ℕ → List ℕ → Table
one_record n bytes = fin.insert fin.empty n (Some bytes)

-- this block has this state, and every other one is Unknown
abbrev pub one_entry : ℕ → State → Table
one_entry n Unknown = empty_table
one_entry n (Known bytes) = one_record n bytes
one_entry n Conflict = fin.insert fin.empty n None

-- u is t with the state of block n joined to s
abbrev pub IsAdded : Table → ℕ → State → Table → Type 0
IsAdded t n s u = (q : ℕ) → state_of u q ≡ cond (q == n) (join_of (state_of t n) s) (state_of t q)

-- the join of what is held of a block, if anything, and of another held state
abbrev pub join_held : Option Held → Held → Held
join_held None h = h
join_held (Some None) h = None
join_held (Some (Some a)) None = None
join_held (Some (Some a)) (Some b) = cond (bytes_eq a b) (Some a) None

-- t with the entries joined in: at a block that is in the list, its first entry is joined to what t holds
abbrev pub join_entries : Table → List (ℕ × Held) → Table
join_entries t [] = t
join_entries t (e ∷ es) = fin.insert (join_entries t es) e.0 (join_held (fin.get t e.0) e.1)

-- the least table above both
unfoldable pub join_tables : Table → Table → Table
join_tables t u = join_entries t (fin.entries u)

-- where a state that a block may have is joined to it, each block of the table has a state that it may have
sound_at : (t : Table) (n : ℕ) (s : State) (q : ℕ) → IsTable t → IsStateAt n s → (b : Bool) → (q == n) ≡ b → IsStateAt q (cond b (join_of (state_of t n) s) (state_of t q))
sound_at t n s q sound fits true is = subst (λ k. IsStateAt k (join_of (state_of t n) s)) (sym (eqb-true q n is)) (IsStateAt-join_of n (state_of t n) s (sound n) fits)
sound_at t n s q sound fits false is = sound q

-- a table in which a state that a block may have was joined to it is still one of the tables that there are
pub IsTable-added : (t : Table) (n : ℕ) (s : State) (u : Table) → IsTable t → IsStateAt n s → IsAdded t n s u → IsTable u
IsTable-added t n s u sound fits added q = subst (IsStateAt q) (sym (added q)) (sound_at t n s q sound fits (q == n) refl)

-- two tables that are both t with the state of block n joined to s have the same state at every block
pub IsAdded-same : (t u v : Table) (n : ℕ) (s : State) → IsAdded t n s u → IsAdded t n s v → (q : ℕ) → state_of u q ≡ state_of v q
IsAdded-same t u v n s a b q = a q ∙ sym (b q)

-- u is t without what is known of block n
abbrev pub IsForgotten : Table → ℕ → Table → Type 0
IsForgotten t n u = (q : ℕ) → state_of u q ≡ cond (q == n) Unknown (state_of t q)

-- whether the block is one of these
abbrev pub is_named : List ℕ → ℕ → Bool
is_named [] q = false
is_named (n ∷ ns) q = (q == n) || is_named ns q

-- u is t without what is known of these blocks
abbrev pub AreForgotten : Table → List ℕ → Table → Type 0
AreForgotten t ns u = (q : ℕ) → state_of u q ≡ cond (is_named ns q) Unknown (state_of t q)

-- the state itself, but Unknown for Conflict
abbrev pub without_conflict : State → State
without_conflict Unknown = Unknown
without_conflict (Known bytes) = Known bytes
without_conflict Conflict = Unknown

-- u is t with Unknown at each block that is in Conflict
abbrev pub IsWithoutConflicts : Table → Table → Type 0
IsWithoutConflicts t u = (q : ℕ) → state_of u q ≡ without_conflict (state_of t q)
