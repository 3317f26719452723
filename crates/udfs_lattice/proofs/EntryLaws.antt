-- The table of entries whose block numbers rise has just these entries, and each table has such entries.
use Rattle.std.specs.Prelude.{◌≡◌, ℕ, ◌+◌, ◌<◌, ◌≤◌, ◌==◌, Bool, true, false, cond, List, [], ◌∷◌, ◌++◌, map, length, None, Some, refl}
use Rattle.std.specs.Ordering.{nat_cmp, is_lt, eq_by_cmp}
use Rattle.std.specs.FinMap.Entries.{below_all}
use Rattle.std.specs.FinMap as fin
use lib.Dec.{T}
use Rattle.std.proofs.Common.{sym, ap, subst, ◌∙◌, arith}
use Rattle.std.proofs.lemmas.Bool.{and_from, and_parts, eqb-true, eq-eqb, ne_eqb}
use Rattle.std.proofs.lemmas.Bool.Decides.{nat_tests}
use Rattle.udfs_lattice.specs.declared.facts.Fact.TheVariants.{Unknown, Known, Conflict}
use Rattle.udfs_lattice.specs.States.{State, join_of, join_of-unknown}
use Rattle.udfs_lattice.specs.Tables.{Table, Held, fact_held, fact_found, state_of, entries_of, one_entry, empty_table, join_tables, IsTable, IsStateAt, IsStateAt-join_of}
use Rattle.udfs_lattice.specs.TableLaws.{same_table, fact_found-injective, eq_by_cmp-nat, state_of-empty, state_of-join_tables, state_of-one_entry, join_tables-assoc, join_tables-comm}
use Rattle.udfs_lattice.specs.Records.{table_of_entries, IsEntry, RisesFrom}
use Rattle.udfs_lattice.proofs.Listed.{entries_from_find}

-- what is held of a state
abbrev held_of : State → Held
held_of Unknown = None
held_of (Known bytes) = Some bytes
held_of Conflict = None

abbrev held_entries : List (ℕ × State) → List (ℕ × Held)
held_entries es = map (λ e. (e.0, held_of e.1)) es

held_again : (n : ℕ) (s : State) → IsEntry n s → fact_held (held_of s) ≡ s
held_again n Unknown h = absurd h
held_again n (Known bytes) h = refl
held_again n Conflict h = refl

-- ---- the states of rising entries

at_head : (s rest : State) (b : Bool) → rest ≡ Unknown → join_of (cond b s Unknown) rest ≡ cond b s rest
at_head s rest true e = ap (join_of s) e ∙ join_of-unknown s
at_head s rest false e = refl

pub state_of-cons : (e : ℕ × State) (es : List (ℕ × State)) (q : ℕ) → state_of (table_of_entries (e ∷ es)) q ≡ join_of (cond (q == e.0) e.1 Unknown) (state_of (table_of_entries es) q)
state_of-cons e es q =
    state_of-join_tables (one_entry e.0 e.1) (table_of_entries es) q
    ∙ ap (λ s. join_of s (state_of (table_of_entries es) q)) (state_of-one_entry e.0 e.1 q)

-- nothing below the first
pub unknown_below : (low : ℕ) (es : List (ℕ × State)) (q : ℕ) → RisesFrom low es → q < low → state_of (table_of_entries es) q ≡ Unknown
unknown_below low [] q h lt = state_of-empty q
unknown_below low (e ∷ es) q h lt =
    let first = h.0 in
    let other : (q == e.0) ≡ false = ne_eqb q e.0 (λ is. omega arith) in
    state_of-cons e es q
    ∙ ap (λ b. join_of (cond b e.1 Unknown) (state_of (table_of_entries es) q)) other
    ∙ unknown_below (e.0 + 1) es q h.2 (omega arith)

found_head : (e : ℕ × State) (es : List (ℕ × State)) (q : ℕ) (b : Bool) → (q == e.0) ≡ b → IsEntry e.0 e.1 → RisesFrom (e.0 + 1) es
    → state_of (table_of_entries es) q ≡ fact_found (fin.find nat_cmp q (held_entries es))
    → join_of (cond b e.1 Unknown) (state_of (table_of_entries es) q) ≡ fact_found (cond b (Some (held_of e.1)) (fin.find nat_cmp q (held_entries es)))
found_head e es q true is entry rest same =
    ap (join_of e.1) (unknown_below (e.0 + 1) es q rest (let at : q ≡ e.0 = eqb-true q e.0 is in omega arith)) ∙ join_of-unknown e.1 ∙ sym (held_again e.0 e.1 entry)
found_head e es q false is entry rest same = same

-- the state is what is found in the list
state_found : (low : ℕ) (es : List (ℕ × State)) (q : ℕ) → RisesFrom low es → state_of (table_of_entries es) q ≡ fact_found (fin.find nat_cmp q (held_entries es))
state_found low [] q h = state_of-empty q
state_found low (e ∷ es) q h =
    state_of-cons e es q
    ∙ found_head e es q (q == e.0) refl h.1 h.2 (state_found (e.0 + 1) es q h.2)
    ∙ ap (λ b. fact_found (cond b (Some (held_of e.1)) (fin.find nat_cmp q (held_entries es)))) (sym (eq_by_cmp-nat q e.0))

less_is : (k q : ℕ) → k < q → is_lt (nat_cmp k q) ≡ true
less_is k q h = grind (arith, nat_tests)

less_from : (k q : ℕ) → is_lt (nat_cmp k q) ≡ true → k < q
less_from k q h = grind (arith, nat_tests)

below_rising : (k low : ℕ) (es : List (ℕ × State)) → k < low → RisesFrom low es → below_all nat_cmp k (held_entries es) ≡ true
below_rising k low [] lt h = refl
below_rising k low (e ∷ es) lt h =
    let first = h.0 in
    and_from (is_lt (nat_cmp k e.0)) (below_all nat_cmp k (held_entries es)) (less_is k e.0 (omega arith)) (below_rising k (e.0 + 1) es (omega arith) h.2)

sorted_rising : (low : ℕ) (es : List (ℕ × State)) → RisesFrom low es → fin.is_sorted nat_cmp (held_entries es) ≡ true
sorted_rising low [] h = refl
sorted_rising low (e ∷ es) h = and_from (below_all nat_cmp e.0 (held_entries es)) (fin.is_sorted nat_cmp (held_entries es)) (below_rising e.0 (e.0 + 1) es (omega arith) h.2) (sorted_rising (e.0 + 1) es h.2)

facts_again : (low : ℕ) (es : List (ℕ × State)) → RisesFrom low es → map (λ e. (e.0, fact_held e.1)) (held_entries es) ≡ es
facts_again low [] h = refl
facts_again low (e ∷ es) h = ap (λ (s : State). (e.0, s) ∷ map (λ x. (x.0, fact_held x.1)) (held_entries es)) (held_again e.0 e.1 h.1) ∙ ap (λ (l : List (ℕ × State)). e ∷ l) (facts_again (e.0 + 1) es h.2)

-- the entries of the table of rising entries are these entries
pub entries_of-rising : (low : ℕ) (es : List (ℕ × State)) → RisesFrom low es → entries_of (table_of_entries es) ≡ es
entries_of-rising low es h =
    ap (map (λ e. (e.0, fact_held e.1))) (entries_from_find (table_of_entries es) (held_entries es) (subst T (sym (sorted_rising low es h)) tt) (λ q. fact_found-injective _ _ (state_found low es q h)))
    ∙ facts_again low es h

-- ---- the entries of a table rise

find_below : (k q : ℕ) (es : List (ℕ × Held)) → below_all nat_cmp k es ≡ true → q ≤ k → fin.find nat_cmp q es ≡ None
find_below k q [] h le = refl
find_below k q (e ∷ es) h le =
    let above : k < e.0 = less_from k e.0 ((and_parts (is_lt (nat_cmp k e.0)) (below_all nat_cmp k es) h).0) in
    let other : eq_by_cmp nat_cmp q e.0 ≡ false = eq_by_cmp-nat q e.0 ∙ ne_eqb q e.0 (λ is. omega arith) in
    ap (λ b. cond b (Some e.1) (fin.find nat_cmp q es)) other ∙ find_below k q es ((and_parts (is_lt (nat_cmp k e.0)) (below_all nat_cmp k es) h).1) le

-- what is found in a list is in range
abbrev FoundInRange : List (ℕ × Held) → Type 0
FoundInRange es = (q : ℕ) (h : Held) → fin.find nat_cmp q es ≡ Some h → IsStateAt q (fact_held h)

find_later : (e : ℕ × Held) (es : List (ℕ × Held)) (q : ℕ) (h : Held) → below_all nat_cmp e.0 es ≡ true → fin.find nat_cmp q es ≡ Some h → (b : Bool) → (q == e.0) ≡ b → cond b (Some e.1) (fin.find nat_cmp q es) ≡ Some h
find_later e es q h below found true is = let none : fin.find nat_cmp q es ≡ None = find_below e.0 q es below (let at : q ≡ e.0 = eqb-true q e.0 is in omega arith) in let clash = sym none ∙ found in absurd cc
find_later e es q h below found false is = found

tail_in_range : (e : ℕ × Held) (es : List (ℕ × Held)) → below_all nat_cmp e.0 es ≡ true → FoundInRange (e ∷ es) → FoundInRange es
tail_in_range e es below h q held found = h q held (ap (λ b. cond b (Some e.1) (fin.find nat_cmp q es)) (eq_by_cmp-nat q e.0) ∙ find_later e es q held below found (q == e.0) refl)

is_entry : (n : ℕ) (h : Held) → IsStateAt n (fact_held h) → IsEntry n (fact_held h)
is_entry n None h = h
is_entry n (Some bytes) h = h

-- the first is from `low` on
abbrev FirstFrom : ℕ → List (ℕ × Held) → Type 0
FirstFrom low [] = Unit {0}
FirstFrom low (e ∷ es) = low ≤ e.0

first_after : (k : ℕ) (es : List (ℕ × Held)) → below_all nat_cmp k es ≡ true → FirstFrom (k + 1) es
first_after k [] h = tt
first_after k (e ∷ es) h = let above : k < e.0 = less_from k e.0 ((and_parts (is_lt (nat_cmp k e.0)) (below_all nat_cmp k es) h).0) in omega arith

rising_held : (low : ℕ) (es : List (ℕ × Held)) → fin.is_sorted nat_cmp es ≡ true → FirstFrom low es → FoundInRange es → RisesFrom low (map (λ e. (e.0, fact_held e.1)) es)
rising_held low [] sorted first found = tt
rising_held low (e ∷ es) sorted first found =
    let below : below_all nat_cmp e.0 es ≡ true = (and_parts (below_all nat_cmp e.0 es) (fin.is_sorted nat_cmp es) sorted).0 in
    let here : fin.find nat_cmp e.0 (e ∷ es) ≡ Some e.1 = ap (λ b. cond b (Some e.1) (fin.find nat_cmp e.0 es)) (eq_by_cmp-nat e.0 e.0 ∙ eq-eqb e.0 e.0 refl) in
    (first, is_entry e.0 e.1 (found e.0 e.1 here), rising_held (e.0 + 1) es ((and_parts (below_all nat_cmp e.0 es) (fin.is_sorted nat_cmp es) sorted).1) (first_after e.0 es below) (tail_in_range e es below found))

true_of : (b : Bool) → T b → b ≡ true
true_of true h = refl
true_of false h = absurd h

first_from_zero : (es : List (ℕ × Held)) → FirstFrom 0 es
first_from_zero [] = tt
first_from_zero (e ∷ es) = omega arith

pub rises-entries_of : (t : Table) → IsTable t → RisesFrom 0 (entries_of t)
rises-entries_of t sound =
    rising_held 0 (fin.entries t) (true_of _ (fin.entries_sorted t)) (first_from_zero (fin.entries t))
    (λ q h found. subst (IsStateAt q) (ap fact_found (fin.get-entries t q ∙ found)) (sound q))

held_of-held : (h : Held) → held_of (fact_held h) ≡ h
held_of-held None = refl
held_of-held (Some bytes) = refl

held_map : (es : List (ℕ × Held)) → held_entries (map (λ e. (e.0, fact_held e.1)) es) ≡ es
held_map [] = refl
held_map (e ∷ es) = ap (λ (h : Held). (e.0, h) ∷ held_entries (map (λ x. (x.0, fact_held x.1)) es)) (held_of-held e.1) ∙ ap (λ (l : List (ℕ × Held)). e ∷ l) (held_map es)

-- a table is the table of its entries
pub table_of_entries-entries_of : (t : Table) → IsTable t → table_of_entries (entries_of t) ≡ t
table_of_entries-entries_of t sound =
    same_table (table_of_entries (entries_of t)) t (λ q.
    state_found 0 (entries_of t) q (rises-entries_of t sound)
    ∙ ap (λ (l : List (ℕ × Held)). fact_found (fin.find nat_cmp q l)) (held_map (fin.entries t))
    ∙ ap fact_found (sym (fin.get-entries t q)))

-- ---- one more entry, and how many there can be

pub table_of_entries-push : (es : List (ℕ × State)) (n : ℕ) (s : State) → table_of_entries (es ++ (n, s) ∷ []) ≡ join_tables (table_of_entries es) (one_entry n s)
table_of_entries-push [] n s = join_tables-comm (one_entry n s) empty_table
table_of_entries-push (e ∷ es) n s = ap (join_tables (one_entry e.0 e.1)) (table_of_entries-push es n s) ∙ sym (join_tables-assoc (one_entry e.0 e.1) (table_of_entries es) (one_entry n s))

-- ---- the table of rising entries is one that there is

at_entry : (n : ℕ) (s : State) → IsEntry n s → IsStateAt n s
at_entry n Unknown h = absurd h
at_entry n (Known bytes) h = h
at_entry n Conflict h = h

one_state : (e : ℕ × State) (q : ℕ) (b : Bool) → (q == e.0) ≡ b → IsEntry e.0 e.1 → IsStateAt q (cond b e.1 Unknown)
one_state e q true is h = subst (λ k. IsStateAt k e.1) (sym (eqb-true q e.0 is)) (at_entry e.0 e.1 h)
one_state e q false is h = tt

pub IsTable-rising : (low : ℕ) (es : List (ℕ × State)) → RisesFrom low es → IsTable (table_of_entries es)
IsTable-rising low [] h q = subst (IsStateAt q) (sym (state_of-empty q)) tt
IsTable-rising low (e ∷ es) h q =
    subst (IsStateAt q) (sym (state_of-cons e es q))
    (IsStateAt-join_of q (cond (q == e.0) e.1 Unknown) (state_of (table_of_entries es) q) (one_state e q (q == e.0) refl h.1) (IsTable-rising (e.0 + 1) es h.2 q))

-- ---- how many entries there can be

number_low : (n : ℕ) (s : State) → IsEntry n s → n ≤ 4194303
number_low n Unknown h = absurd h
number_low n (Known bytes) h = h.0
number_low n Conflict h = h

pub few_entries : (low : ℕ) (es : List (ℕ × State)) → low ≤ 4194304 → RisesFrom low es → low + length es ≤ 4194304
few_entries low [] fits h = omega arith
few_entries low (e ∷ es) fits h =
    let first = h.0 in
    let below : e.0 ≤ 4194303 = number_low e.0 e.1 h.1 in
    let rest : (e.0 + 1) + length es ≤ 4194304 = few_entries (e.0 + 1) es (omega arith) h.2 in
    omega arith
