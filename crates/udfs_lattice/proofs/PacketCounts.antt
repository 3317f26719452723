-- How many blocks of a packet are known, and how many are in conflict: as many as their masks have bits.
use Rattle.std.specs.Prelude.{◌≡◌, ℕ, zero, suc, ◌+◌, ◌^◌, ◌%◌, ◌<◌, ◌==◌, Bool, true, false, cond, List, [], ◌∷◌, map, count_by, Option, None, Some, slice_index_or, refl}
use Rattle.std.specs.Ordering.{nat_cmp, is_eq}
use Rattle.std.specs.Cmp.{nat_cmp_total}
use Rattle.std.specs.FinMap as fin
use Rattle.std.specs.FinMap.Entries.{by_order}
use Rattle.std.specs.Int.{bit_at}
use Rattle.std.specs.Int.RustNames.{count_ones}
use Rattle.std.proofs.Common.{sym, ap, ◌∙◌, arith, Ordering, Less, Equal, Greater}
use Rattle.std.proofs.lemmas.Nat.Bits.{bit_at-lt}
use Rattle.std.proofs.lemmas.List.Recursion.{is_count_by}
use Rattle.std.proofs.lemmas.Bool.{eqb-true, eqb-false}
use Rattle.udfs_lattice.specs.declared.facts.Fact.TheVariants.{Unknown}
use Rattle.udfs_lattice.specs.States.{State, is_known, is_conflict}
use Rattle.udfs_lattice.specs.Tables.{Table, Held, fact_held, fact_found, state_of, entries_of, known_count, conflict_count, empty_table}
use Rattle.udfs_lattice.specs.TableLaws.{fact_found-injective}
use Rattle.udfs_lattice.specs.Packets.{rank, held_at, add_found, table_below, table_packet, IsPacket}
use Rattle.udfs_lattice.proofs.Listed.{entries_from_find}
use Rattle.udfs_lattice.proofs.PacketRanks.{count_ones-low}
use Rattle.udfs_lattice.proofs.PacketStates.{state_of-table_below, lt_self, known_said, conflict_said, clear_bit}

-- how many entries have a state that passes the test, from the front
abbrev count_listed : (State → Bool) → List (ℕ × State) → ℕ
count_listed p [] = 0
count_listed p (e ∷ es) = cond (p e.1) 1 0 + count_listed p es

one_counted : (b : Bool) (n : ℕ) → cond b 1 0 + n ≡ cond b (1 + n) n
one_counted true n = refl
one_counted false n = omega arith

count_by-listed : (p : State → Bool) (es : List (ℕ × State)) → count_listed p es ≡ count_by (λ (e : ℕ × State). p e.1) es
count_by-listed p es = is_count_by (count_listed p) (λ (e : ℕ × State). p e.1) refl (λ e rest. one_counted (p e.1) (count_listed p rest)) es

abbrev count_held : (State → Bool) → List (ℕ × Held) → ℕ
count_held p es = count_listed p (map (λ e. (e.0, fact_held e.1)) es)

-- ---- one entry at a new number
front_step : (a b : ℕ) → a + b ≡ b + a
front_step a b = omega arith

later_step : (a b c d : ℕ) → d ≡ b + c → a + d ≡ a + b + c
later_step a b c d e = omega arith

count_put_step : (p : State → Bool) (k : ℕ) (v : Held) (e : ℕ × Held) (es : List (ℕ × Held)) → (fin.find nat_cmp k es ≡ None → count_held p (fin.put nat_cmp k v es) ≡ count_held p es + cond (p (fact_held v)) 1 0) → (o : Ordering) → cond (is_eq o) (Some e.1) (fin.find nat_cmp k es) ≡ None → count_held p (by_order o ((k, v) ∷ e ∷ es) ((e.0, v) ∷ es) (e ∷ fin.put nat_cmp k v es)) ≡ count_held p (e ∷ es) + cond (p (fact_held v)) 1 0
count_put_step p k v e es rest Less none = front_step (cond (p (fact_held v)) 1 0) (count_held p (e ∷ es))
count_put_step p k v e es rest Equal none = cc
count_put_step p k v e es rest Greater none = later_step (cond (p (fact_held e.1)) 1 0) (count_held p es) (cond (p (fact_held v)) 1 0) (count_held p (fin.put nat_cmp k v es)) (rest none)

count_put : (p : State → Bool) (k : ℕ) (v : Held) (es : List (ℕ × Held)) → fin.find nat_cmp k es ≡ None → count_held p (fin.put nat_cmp k v es) ≡ count_held p es + cond (p (fact_held v)) 1 0
count_put p k v [] none = front_step (cond (p (fact_held v)) 1 0) 0
count_put p k v (e ∷ es) none = count_put_step p k v e es (count_put p k v es) (nat_cmp k e.0) none

-- how many blocks of a table have a state that passes the test
abbrev pub count_states : (State → Bool) → Table → ℕ
count_states p t = count_listed p (entries_of t)

count_insert : (p : State → Bool) (t : Table) (n : ℕ) (h : Held) → state_of t n ≡ Unknown → count_states p (fin.insert t n h) ≡ count_states p t + cond (p (fact_held h)) 1 0
count_insert p t n h none =
    ap (count_held p) (fin.entries-insert nat_cmp_total t n h)
    ∙ count_put p n h (fin.entries t) (sym (fin.get-entries t n) ∙ fact_found-injective (fin.get t n) None none)

no_more : (n : ℕ) (b : Bool) → b ≡ false → n ≡ n + cond b 1 0
no_more n true e = cc
no_more n false e = omega arith

count_found : (p : State → Bool) (t : Table) (n : ℕ) (o : Option Held) → state_of t n ≡ Unknown → p Unknown ≡ false → count_states p (add_found t n o) ≡ count_states p t + cond (p (fact_found o)) 1 0
unfolding add_found
count_found p t n None none out = no_more (count_states p t) (p Unknown) out
count_found p t n (Some h) none out = count_insert p t n h none

-- ---- the places of a packet
below_one : (x : ℕ) → x < 2 → (x ≡ 1 → ⊥) → 0 ≡ x
below_one x h ne = omega arith

bit_from : (x : ℕ) (b : Bool) → x < 2 → (x == 1) ≡ b → cond b 1 0 ≡ x
bit_from x true h e = sym (eqb-true x 1 e)
bit_from x false h e = below_one x h (eqb-false x 1 e)

sum_step : (a b c d : ℕ) → a ≡ b → c ≡ d → a + c ≡ b + d
sum_step a b c d e f = omega arith

none_listed : fin.entries empty_table ≡ []
none_listed = entries_from_find empty_table [] tt (λ q. fin.get-empty nat_cmp q)

count_below : (p : State → Bool) (f : ℕ → Option Held) (mask m : ℕ) → p Unknown ≡ false → ((i : ℕ) → i < m → (bit_at mask i == 1) ≡ p (fact_found (f i))) → count_states p (table_below f m) ≡ rank mask m
unfolding table_below rank
count_below p f mask zero out same = ap (count_held p) none_listed
count_below p f mask (suc m) out same =
    count_found p (table_below f m) m (f m) (state_of-table_below f m m ∙ ap (λ b. cond b (fact_found (f m)) Unknown) (lt_self m)) out
    ∙ sum_step (count_states p (table_below f m)) (rank mask m) (cond (p (fact_found (f m))) 1 0) (bit_at mask m)
    (count_below p f mask m out (λ i h. same i (omega arith)))
    (bit_from (bit_at mask m) (p (fact_found (f m))) (bit_at-lt mask m) (same m (omega arith)))

ones_rank : (mask : ℕ) → mask < 2 ^ 32 → count_ones mask ≡ rank mask 32
ones_rank mask fits = let low : mask % 2 ^ 32 ≡ mask = omega arith in ap count_ones (sym low) ∙ count_ones-low mask 32

pub known_ones : (k c : ℕ) (bs : List (List ℕ)) (t : Table) → k < 2 ^ 32 → table_packet k c bs ≡ t → count_ones k ≡ known_count t
unfolding table_packet
known_ones k c bs t fits view =
    ones_rank k fits
    ∙ sym (count_below is_known (held_at k c bs) k 32 refl (λ i h. sym (known_said (bit_at k i == 1) (bit_at c i == 1) (slice_index_or bs (rank k i) []))))
    ∙ count_by-listed is_known (entries_of (table_below (held_at k c bs) 32))
    ∙ ap known_count view

pub conflict_ones : (k c : ℕ) (bs : List (List ℕ)) (t : Table) → c < 2 ^ 32 → IsPacket k c bs → table_packet k c bs ≡ t → count_ones c ≡ conflict_count t
unfolding table_packet
conflict_ones k c bs t fits p view =
    ones_rank c fits
    ∙ sym (count_below is_conflict (held_at k c bs) c 32 refl (λ i h. sym (conflict_said (bit_at k i == 1) (bit_at c i == 1) (slice_index_or bs (rank k i) []) (λ e. clear_bit c i (p.apart i h (eqb-true (bit_at k i) 1 e))))))
    ∙ count_by-listed is_conflict (entries_of (table_below (held_at k c bs) 32))
    ∙ ap conflict_count view
