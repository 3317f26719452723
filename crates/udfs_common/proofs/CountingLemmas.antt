-- Counts over all blocks, by tests that see the block's number; and how many blocks come into conflict where two tables disagree.
use Rattle.std.proofs.Common.{◌≡◌, ◌≤◌, ◌+◌, ◌<◌, ◌==◌, ◌∙◌, arith, ap, sym, refl, subst, cond, count_by, ℕ, zero, suc, Bool, true, false, List, [], ◌∷◌}
use Rattle.std.specs.Str.{bytes_eq}
use Rattle.std.proofs.lemmas.Bool.{eqb-true}
use Rattle.std.proofs.lemmas.List.Sums.{sum_by-append, sum_by-cons}
use Rattle.udfs_lattice.specs.Records.{Record, table_of}
use Rattle.udfs_lattice.specs.States.{State, is_conflict, join_of}
use Rattle.udfs_lattice.specs.TableLaws.{state_of-empty, state_of-join_tables, state_of-one_record}
use Rattle.udfs_lattice.specs.Tables.{IsStateAt, IsStateAt-join_of, IsTable, Table, conflict_count, entries_of, join_tables, one_record, state_of}
use Rattle.udfs_lattice.specs.declared.facts.Fact.TheVariants.{Unknown, Known, Conflict}
use Rattle.udfs_index.specs.Comparing.{are_known, are_other, disagreeing, is_other_disc}
use Rattle.udfs_index.proofs.EntryLemmas.{all_entries, entries_below, entries-more, entries-none}
use Rattle.udfs_reading.specs.Inputs.{named}
use Rattle.udfs_reading.specs.PacketReading.{entry_at}
use Rattle.udfs_reading.specs.Reading.{AreRecords}
use Rattle.udfs_reading.specs.Several.{HasTable}

-- how many entries of the blocks below n pass the test
abbrev pub counted : (ℕ → State → Bool) → Table → ℕ → ℕ
counted test t n = count_by (λ (e : ℕ × State). test e.0 e.1) (entries_below t n)

pub counted_none : (test : ℕ → State → Bool) (t : Table) → counted test t 0 ≡ 0
counted_none test t = ap (count_by (λ (e : ℕ × State). test e.0 e.1)) (entries-none t)

one_counted : (test : ℕ → State → Bool) (n : ℕ) (s : State) → test n Unknown ≡ false → count_by (λ (e : ℕ × State). test e.0 e.1) (entry_at n s) ≡ cond (test n s) 1 0
one_counted test n Unknown none = sym (ap (λ (b : Bool). cond b 1 0) none)
one_counted test n (Known bytes) none = let z : cond (test n (Known bytes)) 1 0 + 0 ≡ cond (test n (Known bytes)) 1 0 = omega arith in sum_by-cons (λ (e : ℕ × State). cond (test e.0 e.1) 1 0) (n, Known bytes) [] ∙ z
one_counted test n Conflict none = let z : cond (test n Conflict) 1 0 + 0 ≡ cond (test n Conflict) 1 0 = omega arith in sum_by-cons (λ (e : ℕ × State). cond (test e.0 e.1) 1 0) (n, Conflict) [] ∙ z

pub counted_next : (test : ℕ → State → Bool) (t : Table) (n : ℕ) → test n Unknown ≡ false → counted test t (n + 1) ≡ counted test t n + cond (test n (state_of t n)) 1 0
counted_next test t n none =
    ap (count_by (λ (e : ℕ × State). test e.0 e.1)) (entries-more t n)
    ∙ sum_by-append (λ (e : ℕ × State). cond (test e.0 e.1) 1 0) (entries_below t n) (entry_at n (state_of t n))
    ∙ ap (λ (k : ℕ). counted test t n + k) (one_counted test n (state_of t n) none)

pub counted_all : (test : ℕ → State → Bool) (t : Table) (n : ℕ) → n ≡ 4194304 → IsTable t → counted test t n ≡ count_by (λ (e : ℕ × State). test e.0 e.1) (entries_of t)
counted_all test t n e is = ap (count_by (λ (e : ℕ × State). test e.0 e.1)) (all_entries t n e is)

-- ---- the two tests
pub none_known : (x : State) → are_known x Unknown ≡ false
none_known Unknown = refl
none_known (Known a) = refl
none_known Conflict = refl

pub none_other : (x : State) → are_other x Unknown ≡ false
none_other Unknown = refl
none_other (Known a) = refl
none_other Conflict = refl

-- one more block of each
pub known_next : (t s : Table) (n count : ℕ) (b : Bool) → b ≡ are_known (state_of t n) (state_of s n) → count ≡ counted (λ k x. are_known (state_of t k) x) s n → count + cond b 1 0 ≡ counted (λ k x. are_known (state_of t k) x) s (n + 1)
known_next t s n count b is was = ap (λ (k : ℕ). k + cond b 1 0) was ∙ ap (λ (x : Bool). counted (λ k x. are_known (state_of t k) x) s n + cond x 1 0) is ∙ sym (counted_next (λ k x. are_known (state_of t k) x) s n (none_known (state_of t n)))

pub other_next : (t s : Table) (n count : ℕ) (b : Bool) → b ≡ are_other (state_of t n) (state_of s n) → count ≡ counted (λ k x. are_other (state_of t k) x) s n → count + cond b 1 0 ≡ counted (λ k x. are_other (state_of t k) x) s (n + 1)
other_next t s n count b is was = ap (λ (k : ℕ). k + cond b 1 0) was ∙ ap (λ (x : Bool). counted (λ k x. are_other (state_of t k) x) s n + cond x 1 0) is ∙ sym (counted_next (λ k x. are_other (state_of t k) x) s n (none_other (state_of t n)))

-- ---- where two tables disagree, a block comes into conflict
known_join : (a b : List ℕ) (same : Bool) → bytes_eq a b ≡ same → cond (is_conflict (Known a)) 1 0 + cond (are_other (Known a) (Known b)) 1 0 ≤ cond (is_conflict (join_of (Known a) (Known b))) 1 0
known_join a b true e = rw e (omega arith)
known_join a b false e = rw e (omega arith)

comes : (x y : State) → cond (is_conflict x) 1 0 + cond (are_other x y) 1 0 ≤ cond (is_conflict (join_of x y)) 1 0
comes Unknown y = omega arith
comes (Known a) Unknown = omega arith
comes (Known a) (Known b) = known_join a b (bytes_eq a b) refl
comes (Known a) Conflict = omega arith
comes Conflict y = omega arith

comes_below : (t s : Table) (n : ℕ) → counted (λ k x. is_conflict x) t n + counted (λ k x. are_other (state_of t k) x) s n ≤ counted (λ k x. is_conflict x) (join_tables t s) n
comes_below t s zero =
    let a = counted_none (λ k x. is_conflict x) t in
    let b = counted_none (λ k x. are_other (state_of t k) x) s in
    omega (arith, a, b)
comes_below t s (suc n) =
    let z : suc n ≡ n + 1 = omega arith in
    let a : counted (λ k x. is_conflict x) t (suc n) ≡ counted (λ k x. is_conflict x) t n + cond (is_conflict (state_of t n)) 1 0 = ap (counted (λ k x. is_conflict x) t) z ∙ counted_next (λ k x. is_conflict x) t n refl in
    let b : counted (λ k x. are_other (state_of t k) x) s (suc n) ≡ counted (λ k x. are_other (state_of t k) x) s n + cond (are_other (state_of t n) (state_of s n)) 1 0 = ap (counted (λ k x. are_other (state_of t k) x) s) z ∙ counted_next (λ k x. are_other (state_of t k) x) s n (none_other (state_of t n)) in
    let c : counted (λ k x. is_conflict x) (join_tables t s) (suc n) ≡ counted (λ k x. is_conflict x) (join_tables t s) n + cond (is_conflict (join_of (state_of t n) (state_of s n))) 1 0 =
    ap (counted (λ k x. is_conflict x) (join_tables t s)) z ∙ counted_next (λ k x. is_conflict x) (join_tables t s) n refl ∙ ap (λ (x : State). counted (λ k x. is_conflict x) (join_tables t s) n + cond (is_conflict x) 1 0) (state_of-join_tables t s n) in
    let d = comes (state_of t n) (state_of s n) in
    let e = comes_below t s n in
    omega (arith, a, b, c, d, e)

pub comes_into_conflict : (t s : Table) (n : ℕ) → n ≡ 4194304 → IsTable t → IsTable s → IsTable (join_tables t s) → conflict_count t + disagreeing t s ≤ conflict_count (join_tables t s)
comes_into_conflict t s n e is other both =
    let a = counted_all (λ k x. is_conflict x) t n e is in
    let b = counted_all (λ k x. are_other (state_of t k) x) s n e other in
    let c = counted_all (λ k x. is_conflict x) (join_tables t s) n e both in
    let d = comes_below t s n in
    omega (arith, a, b, c, d)

-- fewer than four are no other disc
pub few_are_one : (blocks of : ℕ) → blocks < 4 → is_other_disc blocks of ≡ false
few_are_one zero of few = refl
few_are_one (suc zero) of few = refl
few_are_one (suc (suc zero)) of few = refl
few_are_one (suc (suc (suc zero))) of few = refl
few_are_one (suc (suc (suc (suc n)))) of few = absurd (omega (arith, few))

-- ---- the tables of files
one_fits : (n k : ℕ) (bytes : List ℕ) (b : Bool) → (n == k) ≡ b → IsStateAt k (Known bytes) → IsStateAt n (cond b (Known bytes) Unknown)
one_fits n k bytes true is fits = subst (λ (m : ℕ). IsStateAt m (Known bytes)) (sym (eqb-true n k is)) fits
one_fits n k bytes false is fits = tt

records_table : (rs : List Record) → AreRecords rs → IsTable (table_of rs)
records_table [] each n = subst (IsStateAt n) (sym (state_of-empty n)) tt
records_table (r ∷ rs) each n =
    subst (IsStateAt n) (sym (state_of-join_tables (one_record r.0 r.1) (table_of rs) n)) (IsStateAt-join_of n _ _
    (subst (IsStateAt n) (sym (state_of-one_record r.0 r.1 n)) (one_fits n r.0 r.1 (n == r.0) refl (each.0.number, each.0.block)))
    (records_table rs each.1 n))

by_kind : (a b c : Bool) (bytes : List ℕ) (count : ℕ) (own : Table) → (named a b c).IsFile bytes count own → IsTable own
by_kind true b c bytes count own is = subst IsTable (sym is.3) (records_table is.0 is.1.each)
by_kind false true c bytes count own is = is.0.is_table
by_kind false false true bytes count own is = is.0.is_table
by_kind false false false bytes count own is = absurd is

pub has_table : (bytes : List ℕ) (own : Table) → HasTable bytes own → IsTable own
has_table bytes own has = by_kind _ _ _ bytes has.0 own has.1
