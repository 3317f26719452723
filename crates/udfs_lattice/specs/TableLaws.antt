-- The laws of tables and of their join. Each is a law of states, block by block.
use Rattle.std.specs.Prelude.{◌≡◌, ℕ, ◌==◌, Bool, true, false, cond, List, [], ◌∷◌, Option, None, Some, refl}
use Rattle.std.specs.Ordering.{nat_cmp, eq_by_cmp}
use Rattle.std.specs.Cmp.{nat_cmp_total}
use Rattle.std.specs.FinMap as fin
use Rattle.std.specs.Str.{bytes_eq}
use Rattle.std.proofs.Common.{sym, ap, subst, ◌∙◌, arith}
use Rattle.std.proofs.lemmas.Bool.{eqb-true}
use Rattle.std.proofs.lemmas.Bool.Decides.{nat_tests}
use Rattle.udfs_lattice.specs.declared.facts.Fact.TheVariants.{Unknown, Known, Conflict}
use Rattle.udfs_lattice.specs.States.{State, IsBelow-antisym, IsBelow, join_of, join_of-comm, join_of-assoc, join_of-idem, join_of-unknown, IsBelow-join_of, join_of-least, join_of-between}
use Rattle.udfs_lattice.specs.Tables.{Table, Held, fact_held, fact_found, state_of, join_held, join_entries, join_tables, one_record, one_entry, empty_table, IsTableBelow, IsAdded}

-- the state that is found determines what is held
pub fact_found-injective : (x y : Option Held) → fact_found x ≡ fact_found y → x ≡ y
fact_found-injective None None e = refl
fact_found-injective None (Some None) e = cc
fact_found-injective None (Some (Some b)) e = cc
fact_found-injective (Some None) None e = cc
fact_found-injective (Some None) (Some None) e = refl
fact_found-injective (Some None) (Some (Some b)) e = cc
fact_found-injective (Some (Some a)) None e = cc
fact_found-injective (Some (Some a)) (Some None) e = cc
fact_found-injective (Some (Some a)) (Some (Some b)) e = cc

-- tables with the same states are one table
pub same_table : (t u : Table) → ((n : ℕ) → state_of t n ≡ state_of u n) → t ≡ u
same_table t u h = fin.same_map nat_cmp_total fin.nat_cmp-IsAntisymmetric t u (λ q. fact_found-injective _ _ (h q))

-- comparing two numbers by their order finds them equal exactly where they are equal
pub eq_by_cmp-nat : (q k : ℕ) → eq_by_cmp nat_cmp q k ≡ (q == k)
eq_by_cmp-nat q k = grind (arith, nat_tests)

-- the state after an insert
pub state_of-insert : (t : Table) (n : ℕ) (h : Held) (q : ℕ) → state_of (fin.insert t n h) q ≡ cond (q == n) (fact_held h) (state_of t q)
state_of-insert t n h q =
    ap fact_found (fin.get-insert nat_cmp_total t n h q)
    ∙ ap (λ b. fact_found (cond b (Some h) (fin.get t q))) (eq_by_cmp-nat q n)
    ∙ elim (q == n) as (λ b. fact_found (cond b (Some h) (fin.get t q)) ≡ cond b (fact_held h) (state_of t q)) [ true ↦ refl | false ↦ refl ]

-- each block of the empty table is Unknown
pub state_of-empty : (n : ℕ) → state_of empty_table n ≡ Unknown
state_of-empty n = ap fact_found (fin.get-empty nat_cmp n)

-- joining what a table holds is joining the states that it means
fact_held-join_held : (o : Option Held) (h : Held) → fact_held (join_held o h) ≡ join_of (fact_found o) (fact_held h)
fact_held-join_held None h = refl
fact_held-join_held (Some None) h = refl
fact_held-join_held (Some (Some a)) None = refl
fact_held-join_held (Some (Some a)) (Some b) = elim (bytes_eq a b) as (λ r. fact_held (cond r (Some a) None) ≡ cond r (Known a) Conflict) [ true ↦ refl | false ↦ refl ]

-- one entry, whose number q is or is not
joined_in : (t : Table) (e : ℕ × Held) (es : List (ℕ × Held)) (q : ℕ) → state_of (join_entries t es) q ≡ join_of (state_of t q) (fact_found (fin.find nat_cmp q es)) → (b : Bool) → (q == e.0) ≡ b → cond b (fact_held (join_held (fin.get t e.0) e.1)) (state_of (join_entries t es) q) ≡ join_of (state_of t q) (fact_found (cond b (Some e.1) (fin.find nat_cmp q es)))
joined_in t e es q rest true is = fact_held-join_held (fin.get t e.0) e.1 ∙ ap (λ k. join_of (state_of t k) (fact_held e.1)) (sym (eqb-true q e.0 is))
joined_in t e es q rest false is = rest

-- after entries are joined in, a state is the old one joined to that of the entry for its block, if there is one
state_of-join_entries : (t : Table) (es : List (ℕ × Held)) (q : ℕ) → state_of (join_entries t es) q ≡ join_of (state_of t q) (fact_found (fin.find nat_cmp q es))
state_of-join_entries t [] q = sym (join_of-unknown (state_of t q))
state_of-join_entries t (e ∷ es) q =
    state_of-insert (join_entries t es) e.0 (join_held (fin.get t e.0) e.1) q
    ∙ joined_in t e es q (state_of-join_entries t es q) (q == e.0) refl
    ∙ ap (λ b. join_of (state_of t q) (fact_found (cond b (Some e.1) (fin.find nat_cmp q es)))) (sym (eq_by_cmp-nat q e.0))

-- the join of tables is the join of the states
pub state_of-join_tables : (t u : Table) (q : ℕ) → state_of (join_tables t u) q ≡ join_of (state_of t q) (state_of u q)
unfolding join_tables
state_of-join_tables t u q = state_of-join_entries t (fin.entries u) q ∙ ap (λ o. join_of (state_of t q) (fact_found o)) (sym (fin.get-entries u q))

-- the join of tables is commutative
pub join_tables-comm : (t u : Table) → join_tables t u ≡ join_tables u t
join_tables-comm t u = same_table _ _ (λ n. state_of-join_tables t u n ∙ join_of-comm (state_of t n) (state_of u n) ∙ sym (state_of-join_tables u t n))

-- the join of tables is associative
pub join_tables-assoc : (t u v : Table) → join_tables (join_tables t u) v ≡ join_tables t (join_tables u v)
join_tables-assoc t u v = same_table _ _ (λ n.
    state_of-join_tables (join_tables t u) v n
    ∙ ap (λ s. join_of s (state_of v n)) (state_of-join_tables t u n)
    ∙ join_of-assoc (state_of t n) (state_of u n) (state_of v n)
    ∙ ap (join_of (state_of t n)) (sym (state_of-join_tables u v n))
    ∙ sym (state_of-join_tables t (join_tables u v) n))

-- joining a table to itself changes nothing
pub join_tables-idem : (t : Table) → join_tables t t ≡ t
join_tables-idem t = same_table _ _ (λ n. state_of-join_tables t t n ∙ join_of-idem (state_of t n))

-- a table lies below its join with any other table
pub IsTableBelow-join_tables : (t u : Table) → IsTableBelow t (join_tables t u)
IsTableBelow-join_tables t u n = subst (IsBelow (state_of t n)) (sym (state_of-join_tables t u n)) (IsBelow-join_of (state_of t n) (state_of u n))

-- the join of two tables lies below each table that both of them lie below
pub join_tables-least : (t u v : Table) → IsTableBelow t v → IsTableBelow u v → IsTableBelow (join_tables t u) v
join_tables-least t u v p q n = subst (λ s. IsBelow s (state_of v n)) (sym (state_of-join_tables t u n)) (join_of-least (state_of t n) (state_of u n) (state_of v n) (p n) (q n))

-- where a table lies between the old one and the join, the same join again gives the join
pub join_tables-between : (t u v : Table) → IsTableBelow t v → IsTableBelow v (join_tables t u) → join_tables v u ≡ join_tables t u
join_tables-between t u v p q = same_table _ _ (λ n.
    state_of-join_tables v u n
    ∙ join_of-between (state_of t n) (state_of u n) (state_of v n) (p n) (subst (IsBelow (state_of v n)) (state_of-join_tables t u n) (q n))
    ∙ sym (state_of-join_tables t u n))

-- ---- one record
-- the table of one record knows its block with these bytes, and no other block
pub state_of-one_record : (n : ℕ) (bytes : List ℕ) (q : ℕ) → state_of (one_record n bytes) q ≡ cond (q == n) (Known bytes) Unknown
state_of-one_record n bytes q = state_of-insert empty_table n (Some bytes) q ∙ ap (cond (q == n) (Known bytes)) (state_of-empty q)

-- a choice between a state and itself is that state
either_same : (b : Bool) (s : State) → s ≡ cond b s s
either_same true s = refl
either_same false s = refl

-- in the table of one entry its block has this state, and each other block is Unknown
pub state_of-one_entry : (n : ℕ) (s : State) (q : ℕ) → state_of (one_entry n s) q ≡ cond (q == n) s Unknown
state_of-one_entry n Unknown q = state_of-empty q ∙ either_same (q == n) Unknown
state_of-one_entry n (Known bytes) q = state_of-one_record n bytes q
state_of-one_entry n Conflict q = state_of-insert empty_table n None q ∙ ap (cond (q == n) Conflict) (state_of-empty q)

-- joining a state to one block only is joining it there, and Unknown at each other block
one_joined : (t : Table) (n : ℕ) (s : State) (q : ℕ) (b : Bool) → (q == n) ≡ b → cond b (join_of (state_of t n) s) (state_of t q) ≡ join_of (state_of t q) (cond b s Unknown)
one_joined t n s q true is = ap (λ k. join_of (state_of t k) s) (sym (eqb-true q n is))
one_joined t n s q false is = sym (join_of-unknown (state_of t q))

-- to join a state to that of a block is to join the table of one entry
pub join_tables-from_added : (t : Table) (n : ℕ) (s : State) (u : Table) → IsAdded t n s u → u ≡ join_tables t (one_entry n s)
join_tables-from_added t n s u added = same_table _ _ (λ q.
    added q ∙ one_joined t n s q (q == n) refl
    ∙ ap (join_of (state_of t q)) (sym (state_of-one_entry n s q))
    ∙ sym (state_of-join_tables t (one_entry n s) q))

-- two tables that lie below each other are equal
pub IsTableBelow-antisym : (t u : Table) → IsTableBelow t u → IsTableBelow u t → t ≡ u
IsTableBelow-antisym t u p q = same_table t u (λ n. IsBelow-antisym (state_of t n) (state_of u n) (p n) (q n))

-- the second of two lies below their join
pub IsTableBelow-second : (t u : Table) → IsTableBelow u (join_tables t u)
IsTableBelow-second t u n = subst (IsBelow (state_of u n)) (join_of-comm (state_of u n) (state_of t n) ∙ sym (state_of-join_tables t u n)) (IsBelow-join_of (state_of u n) (state_of t n))

-- joining a table to the empty one gives that table
pub join_tables-empty : (t : Table) → join_tables empty_table t ≡ t
join_tables-empty t = same_table (join_tables empty_table t) t (λ n. state_of-join_tables empty_table t n ∙ ap (λ s. join_of s (state_of t n)) (state_of-empty n))

-- joining the empty table to a table changes nothing
pub join_tables-empty_right : (t : Table) → join_tables t empty_table ≡ t
join_tables-empty_right t = join_tables-comm t empty_table ∙ join_tables-empty t
