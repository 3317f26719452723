-- The table of a list of records is that of the set of its records.
use Rattle.std.specs.Prelude.{◌≡◌, ℕ, ◌==◌, Bool, true, false, cond, Contains, List, [], ◌∷◌, refl}
use Rattle.std.proofs.Common.{sym, ap, subst, ◌∙◌, ⊎_elim}
use Rattle.std.proofs.lemmas.Bool.{eqb-true, eqb-false}
use Rattle.udfs_lattice.specs.declared.facts.Fact.TheVariants.{Unknown, Known, Conflict}
use Rattle.udfs_lattice.specs.States.{State, join_of, join_known, compared, joined_same, joined_apart}
use Rattle.std.specs.Prelude.{◌++◌}
use Rattle.udfs_lattice.specs.Tables.{empty_table, join_tables, Table, state_of, one_record}
use Rattle.udfs_lattice.specs.TableLaws.{join_tables-comm, join_tables-assoc, join_tables-empty, same_table, state_of-empty, state_of-join_tables, state_of-one_record}
use Rattle.udfs_lattice.proofs.Inclusion.{here, there, here_or_there, in_nothing}
use Rattle.udfs_lattice.specs.Records.{Record, IsStateOf, IsTableOf, SameRecords, table_of}

-- a record of another block says nothing of n
other_tail : (r : Record) (rs : List Record) (n : ℕ) (bytes : List ℕ) → (n ≡ r.0 → ⊥) → Contains (r ∷ rs) (n, bytes) → Contains rs (n, bytes)
other_tail r rs n bytes apart h = ⊎_elim (λ e. absurd (apart (sym (ap (λ (x : Record). x.0) e)))) (λ t. t) (here_or_there r rs (n, bytes) h)

other_block : (r : Record) (rs : List Record) (n : ℕ) (s : State) → (n ≡ r.0 → ⊥) → IsStateOf rs n s → IsStateOf (r ∷ rs) n s
other_block r rs n Unknown apart h = λ bytes c. h bytes (other_tail r rs n bytes apart c)
other_block r rs n (Known b) apart h = (there r rs (n, b) h.0, λ o c. h.1 o (other_tail r rs n o apart c))
other_block r rs n Conflict apart h = (h.0, h.1, there r rs (n, h.0) h.2, there r rs (n, h.1) h.3, h.4)

-- where each record of the rest says b, or none does, and the first says a
said : (n : ℕ) (a b : List ℕ) (rs : List Record) → ((o : List ℕ) → Contains rs (n, o) → o ≡ a) → (o : List ℕ) → Contains ((n, a) ∷ rs) (n, o) → o ≡ a
said n a b rs rest o c = ⊎_elim (λ e. sym (ap (λ (x : Record). x.1) e)) (rest o) (here_or_there (n, a) rs (n, o) c)

same_block : (n : ℕ) (a : List ℕ) (rs : List Record) (s : State) → IsStateOf rs n s → IsStateOf ((n, a) ∷ rs) n (join_known a s)
same_block n a rs Unknown h = (here (n, a) rs, said n a a rs (λ o c. absurd (h o c)))
same_block n a rs (Known b) h = ⊎_elim
    (λ e. subst (IsStateOf ((n, a) ∷ rs) n) (sym (joined_same a b e.1)) (here (n, a) rs, said n a b rs (λ o c. h.1 o c ∙ sym e.1)))
    (λ e. subst (IsStateOf ((n, a) ∷ rs) n) (sym (joined_apart a b e.0)) (a, b, here (n, a) rs, there (n, a) rs (n, b) h.0, e.1))
    (compared a b)
same_block n a rs Conflict h = (h.0, h.1, there (n, a) rs (n, h.0) h.2, there (n, a) rs (n, h.1) h.3, h.4)

one_more : (r : Record) (rs : List Record) (n : ℕ) (s : State) → IsStateOf rs n s → (b : Bool) → (n == r.0) ≡ b → IsStateOf (r ∷ rs) n (join_of (cond b (Known r.1) Unknown) s)
one_more r rs n s h true is = subst (λ k. IsStateOf ((k, r.1) ∷ rs) n (join_known r.1 s)) (eqb-true n r.0 is) (same_block n r.1 rs s h)
one_more r rs n s h false is = other_block r rs n s (eqb-false n r.0 is) h

pub IsTableOf-table_of : (rs : List Record) → IsTableOf rs (table_of rs)
IsTableOf-table_of [] n = subst (IsStateOf [] n) (sym (state_of-empty n)) (λ bytes c. in_nothing (n, bytes) c)
IsTableOf-table_of (r ∷ rs) n = subst (IsStateOf (r ∷ rs) n)
    (ap (λ s. join_of s (state_of (table_of rs) n)) (sym (state_of-one_record r.0 r.1 n)) ∙ sym (state_of-join_tables (one_record r.0 r.1) (table_of rs) n))
    (one_more r rs n (state_of (table_of rs) n) (IsTableOf-table_of rs n) (n == r.0) refl)

-- ---- one table
IsStateOf-unique : (rs : List Record) (n : ℕ) (s t : State) → IsStateOf rs n s → IsStateOf rs n t → s ≡ t
IsStateOf-unique rs n Unknown Unknown h k = refl
IsStateOf-unique rs n Unknown (Known b) h k = absurd (h b k.0)
IsStateOf-unique rs n Unknown Conflict h k = absurd (h k.0 k.2)
IsStateOf-unique rs n (Known a) Unknown h k = absurd (k a h.0)
IsStateOf-unique rs n (Known a) (Known b) h k = ap Known (k.1 a h.0)
IsStateOf-unique rs n (Known a) Conflict h k = absurd (k.4 (h.1 k.0 k.2 ∙ sym (h.1 k.1 k.3)))
IsStateOf-unique rs n Conflict Unknown h k = absurd (k h.0 h.2)
IsStateOf-unique rs n Conflict (Known b) h k = absurd (h.4 (k.1 h.0 h.2 ∙ sym (k.1 h.1 h.3)))
IsStateOf-unique rs n Conflict Conflict h k = refl

IsStateOf-same : (rs ss : List Record) → SameRecords rs ss → (n : ℕ) (s : State) → IsStateOf rs n s → IsStateOf ss n s
IsStateOf-same rs ss same n Unknown h = λ bytes c. h bytes ((same (n, bytes)).1 c)
IsStateOf-same rs ss same n (Known b) h = ((same (n, b)).0 h.0, λ o c. h.1 o ((same (n, o)).1 c))
IsStateOf-same rs ss same n Conflict h = (h.0, h.1, (same (n, h.0)).0 h.2, (same (n, h.1)).0 h.3, h.4)

-- a table of the records is the table of each list with the same records
pub IsTableOf-unique : (rs ss : List Record) (t u : Table) → SameRecords rs ss → IsTableOf rs t → IsTableOf ss u → t ≡ u
IsTableOf-unique rs ss t u same h k = same_table t u (λ n. IsStateOf-unique ss n (state_of t n) (state_of u n) (IsStateOf-same rs ss same n (state_of t n) (h n)) (k n))

pub table_of-same : (rs ss : List Record) → SameRecords rs ss → table_of rs ≡ table_of ss
table_of-same rs ss same = IsTableOf-unique rs ss (table_of rs) (table_of ss) same (IsTableOf-table_of rs) (IsTableOf-table_of ss)

-- one more record, and more records
pub table_of-push : (rs : List Record) (n : ℕ) (bytes : List ℕ) → table_of (rs ++ (n, bytes) ∷ []) ≡ join_tables (table_of rs) (one_record n bytes)
table_of-push [] n bytes = join_tables-comm (one_record n bytes) empty_table
table_of-push (r ∷ rs) n bytes = ap (join_tables (one_record r.0 r.1)) (table_of-push rs n bytes) ∙ sym (join_tables-assoc (one_record r.0 r.1) (table_of rs) (one_record n bytes))

pub table_of-append : (rs ss : List Record) → table_of (rs ++ ss) ≡ join_tables (table_of rs) (table_of ss)
table_of-append [] ss = sym (join_tables-empty (table_of ss))
table_of-append (r ∷ rs) ss = ap (join_tables (one_record r.0 r.1)) (table_of-append rs ss) ∙ sym (join_tables-assoc (one_record r.0 r.1) (table_of rs) (table_of ss))
