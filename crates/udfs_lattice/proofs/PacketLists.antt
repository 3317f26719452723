-- The entries of the table of a map of packets are those of the packets, one packet after the other.
use Rattle.std.specs.Prelude.{◌≡◌, ℕ, ◌+◌, ◌*◌, ◌/◌, ◌%◌, ◌<◌, ◌≤◌, ◌==◌, Bool, true, false, cond, List, [], ◌∷◌, ◌++◌, All, None, Some, length, count_by, sum_by, refl}
use Rattle.std.specs.Ordering.{nat_cmp, is_eq}
use Rattle.std.specs.List.{AllByRecursion}
use Rattle.std.specs.List.Sorted.{IsStrictlySortedBy}
use Rattle.std.specs.Map.{lookup, keys_of, values_of}
use Rattle.std.specs.BTreeMap.{BTreeMap, is_at}
use Rattle.std.proofs.Common.{sym, ap, subst, ◌∙◌, arith, Less}
use Rattle.std.proofs.lemmas.Bool.{eqb-true, eqb-false, eq-eqb}
use Rattle.std.proofs.lemmas.Bool.Decides.{nat_tests}
use Rattle.std.proofs.lemmas.List.Elements.{All-nil, All-cons, All-head, All-tail, All-weaker, All-map}
use Rattle.std.proofs.lemmas.List.Sums.{sum_by-cons, sum_by-append, count_by-le-length}
use Rattle.std.proofs.lemmas.Map.Keys.{sorted_head, sorted_tail}
use Rattle.udfs_lattice.specs.declared.facts.Fact.TheVariants.{Unknown, Known, Conflict}
use Rattle.udfs_lattice.specs.States.{State, is_known, is_conflict, join_of, join_of-unknown, join_of-assoc}
use Rattle.udfs_lattice.specs.Tables.{Table, state_of, entries_of, known_count, conflict_count}
use Rattle.udfs_lattice.specs.TableLaws.{same_table, state_of-empty}
use Rattle.udfs_lattice.specs.Records.{table_of_entries, IsEntry, RisesFrom}
use Rattle.udfs_lattice.specs.Packets.{IsPacketTable, IsFirstLeft, entries_left}
use Rattle.udfs_lattice.specs.PacketTables.{found_packet, packet_at, table_packets, IsPacketFound, ArePackets, IsPacketMap, block_entry, block_entries, entries_of_packets, IsEntryFound}
use Rattle.udfs_lattice.proofs.EntryLaws.{state_of-cons, entries_of-rising, few_entries}
use Rattle.udfs_lattice.proofs.PacketEntries.{rises_lower, rises-entries_from, entries_of-packet, places-packet, table_of_entries-packet, IsTable-packet}
use Rattle.udfs_lattice.proofs.PacketTables.{state_of-table_packets, is_at-nat}

-- ---- the first of the packets, and those after it
abbrev Above : ℕ → List (ℕ × Table) → Type 0
Above k ps = AllByRecursion (λ y. nat_cmp k y ≡ Less) (keys_of ps)

none_above : (k : ℕ) (ps : List (ℕ × Table)) → Above k ps → lookup (is_at (nat_cmp k)) ps ≡ None
none_above k [] h = refl
none_above k (p ∷ ps) h = ap (λ o. cond (is_eq o) (Some p.1) (lookup (is_at (nat_cmp k)) ps)) h.0 ∙ none_above k ps h.1

at_itself : (k : ℕ) → is_at (nat_cmp k) k ≡ true
at_itself k = is_at-nat k k ∙ eq-eqb k k refl

first_packet : (p : ℕ × Table) (ps : List (ℕ × Table)) → ArePackets (p ∷ ps) → (p.0 < 131072) × IsPacketTable p.1
first_packet p ps h = subst (λ b. IsPacketFound p.0 (cond b (Some p.1) (lookup (is_at (nat_cmp p.0)) ps))) (at_itself p.0) (h p.0)

later_packet : (p : ℕ × Table) (ps : List (ℕ × Table)) (k : ℕ) (b : Bool) → is_at (nat_cmp k) p.0 ≡ b → Above p.0 ps → IsPacketFound k (cond b (Some p.1) (lookup (is_at (nat_cmp k)) ps)) → IsPacketFound k (lookup (is_at (nat_cmp k)) ps)
later_packet p ps k true is above h = subst (IsPacketFound k) (sym (none_above k ps (subst (λ j. Above j ps) (eqb-true p.0 k (sym (is_at-nat k p.0) ∙ is)) above))) tt
later_packet p ps k false is above h = h

later_packets : (p : ℕ × Table) (ps : List (ℕ × Table)) → Above p.0 ps → ArePackets (p ∷ ps) → ArePackets ps
later_packets p ps above h k = later_packet p ps k (is_at (nat_cmp k) p.0) refl above (h k)

-- ---- they rise
rises_append : (low high : ℕ) (xs ys : List (ℕ × State)) → low ≤ high → RisesFrom low xs → All (λ (e : ℕ × State). e.0 < high) xs → RisesFrom high ys → RisesFrom low (xs ++ ys)
rises_append low high [] ys le h below rest = rises_lower low high ys le rest
rises_append low high (e ∷ es) ys le h below rest =
    let first : e.0 < high = All-head (λ (x : ℕ × State). x.0 < high) e es below in
    (h.0, h.1, rises_append (e.0 + 1) high es ys (omega arith) h.2 (All-tail (λ (x : ℕ × State). x.0 < high) e es below) rest)

entry_at : (k i : ℕ) (s : State) → k < 131072 → i < 32 → IsEntry i s → IsEntry (k * 32 + i) s
entry_at k i Unknown low small h = h
entry_at k i (Known bytes) low small h = (omega arith, h.1)
entry_at k i Conflict low small h = omega arith

rises_block : (k low : ℕ) (es : List (ℕ × State)) → k < 131072 → All (λ (e : ℕ × State). e.0 < 32) es → RisesFrom low es → RisesFrom (k * 32 + low) (block_entries k es)
rises_block k low [] small below h = tt
rises_block k low (e ∷ es) small below h =
    let first = h.0 in
    let place : e.0 < 32 = All-head (λ (x : ℕ × State). x.0 < 32) e es below in (
      omega arith,
      entry_at k e.0 e.1 small place h.1,
      rises_lower (k * 32 + e.0 + 1) (k * 32 + (e.0 + 1)) (block_entries k es) (omega arith) (rises_block k (e.0 + 1) es small (All-tail (λ (x : ℕ × State). x.0 < 32) e es below) h.2),
    )

below_block : (k : ℕ) (es : List (ℕ × State)) → All (λ (e : ℕ × State). e.0 < 32) es → All (λ (e : ℕ × State). e.0 < (k + 1) * 32) (block_entries k es)
below_block k es h =
    All-map (λ (e : ℕ × State). e.0 < (k + 1) * 32) (block_entry k) es
    (All-weaker (λ (e : ℕ × State). e.0 < 32) (λ (e : ℕ × State). k * 32 + e.0 < (k + 1) * 32) (λ e small. omega arith) es h)

-- the first packet is from number `low` on
abbrev FirstFrom : ℕ → List (ℕ × Table) → Type 0
FirstFrom low [] = Unit {0}
FirstFrom low (p ∷ ps) = low ≤ p.0

less_from : (k q : ℕ) → nat_cmp k q ≡ Less → k < q
less_from k q h = grind (arith, nat_tests)

first_after : (k : ℕ) (ps : List (ℕ × Table)) → Above k ps → FirstFrom (k + 1) ps
first_after k [] h = tt
first_after k (p ∷ ps) h = let less : k < p.0 = less_from k p.0 h.0 in omega arith

rises_packets : (low : ℕ) (ps : List (ℕ × Table)) → FirstFrom low ps → IsStrictlySortedBy nat_cmp (keys_of ps) → ArePackets ps → RisesFrom (low * 32) (entries_of_packets ps)
rises_packets low [] first sorted h = tt
rises_packets low (p ∷ ps) first sorted h =
    let above = sorted_head nat_cmp p.0 (keys_of ps) sorted in
    let one = first_packet p ps h in
    let places = places-packet p.1 in
    rises_append (low * 32) ((p.0 + 1) * 32) (block_entries p.0 (entries_left p.1 0)) (entries_of_packets ps) (omega arith)
    (rises_lower (low * 32) (p.0 * 32 + 0) (block_entries p.0 (entries_left p.1 0)) (omega arith) (rises_block p.0 0 (entries_left p.1 0) one.0 places (rises-entries_from p.1 0 32 (IsTable-packet p.1 one.1))))
    (below_block p.0 (entries_left p.1 0) places)
    (rises_packets (p.0 + 1) ps (first_after p.0 ps above) (sorted_tail nat_cmp p.0 (keys_of ps) sorted) (later_packets p ps above h))

-- ---- their table
state_of-append : (xs ys : List (ℕ × State)) (q : ℕ) → state_of (table_of_entries (xs ++ ys)) q ≡ join_of (state_of (table_of_entries xs) q) (state_of (table_of_entries ys) q)
state_of-append [] ys q = ap (λ s. join_of s (state_of (table_of_entries ys) q)) (sym (state_of-empty q))
state_of-append (e ∷ es) ys q =
    state_of-cons e (es ++ ys) q
    ∙ ap (join_of (cond (q == e.0) e.1 Unknown)) (state_of-append es ys q)
    ∙ sym (join_of-assoc (cond (q == e.0) e.1 Unknown) (state_of (table_of_entries es) q) (state_of (table_of_entries ys) q))
    ∙ ap (λ s. join_of s (state_of (table_of_entries ys) q)) (sym (state_of-cons e es q))

either_one : (b : Bool) (s : State) → cond b s s ≡ s
either_one true s = refl
either_one false s = refl

block_step : (k i q : ℕ) (s rest : State) (b c d : Bool) → i < 32 → (q == k * 32 + i) ≡ b → (q / 32 == k) ≡ c → (q % 32 == i) ≡ d → join_of (cond b s Unknown) (cond c rest Unknown) ≡ cond c (join_of (cond d s Unknown) rest) Unknown
block_step k i q s rest true true true small e f g = refl
block_step k i q s rest true true false small e f g = absurd (eqb-false (q % 32) i g (omega (arith, eqb-true q (k * 32 + i) e)))
block_step k i q s rest true false d small e f g = absurd (eqb-false (q / 32) k f (omega (arith, eqb-true q (k * 32 + i) e)))
block_step k i q s rest false true true small e f g = absurd (eqb-false q (k * 32 + i) e (omega (arith, eqb-true (q / 32) k f, eqb-true (q % 32) i g)))
block_step k i q s rest false true false small e f g = refl
block_step k i q s rest false false d small e f g = refl

state_of-block : (k q : ℕ) (es : List (ℕ × State)) → All (λ (e : ℕ × State). e.0 < 32) es → state_of (table_of_entries (block_entries k es)) q ≡ cond (q / 32 == k) (state_of (table_of_entries es) (q % 32)) Unknown
state_of-block k q [] h = state_of-empty q ∙ sym (ap (λ s. cond (q / 32 == k) s Unknown) (state_of-empty (q % 32)) ∙ either_one (q / 32 == k) Unknown)
state_of-block k q (e ∷ es) h =
    state_of-cons (k * 32 + e.0, e.1) (block_entries k es) q
    ∙ ap (join_of (cond (q == k * 32 + e.0) e.1 Unknown)) (state_of-block k q es (All-tail (λ (x : ℕ × State). x.0 < 32) e es h))
    ∙ block_step k e.0 q e.1 (state_of (table_of_entries es) (q % 32)) (q == k * 32 + e.0) (q / 32 == k) (q % 32 == e.0) (All-head (λ (x : ℕ × State). x.0 < 32) e es h) refl refl refl
    ∙ ap (λ s. cond (q / 32 == k) s Unknown) (sym (state_of-cons e es (q % 32)))

state_of-packet_block : (k q : ℕ) (t : Table) → IsPacketTable t → state_of (table_of_entries (block_entries k (entries_left t 0))) q ≡ cond (q / 32 == k) (state_of t (q % 32)) Unknown
state_of-packet_block k q t h =
    state_of-block k q (entries_left t 0) (places-packet t)
    ∙ ap (λ u. cond (q / 32 == k) (state_of u (q % 32)) Unknown) (table_of_entries-packet t h)

same_test : (x y : ℕ) → (x == y) ≡ (y == x)
same_test x y = grind (arith, nat_tests)

packet_step : (p : ℕ × Table) (ps : List (ℕ × Table)) (j i : ℕ) (b : Bool) → is_at (nat_cmp j) p.0 ≡ b → Above p.0 ps → join_of (cond b (state_of p.1 i) Unknown) (state_of (packet_at ps j) i) ≡ state_of (found_packet (cond b (Some p.1) (lookup (is_at (nat_cmp j)) ps))) i
packet_step p ps j i true is above =
    ap (join_of (state_of p.1 i)) (ap (λ o. state_of (found_packet o) i) (none_above j ps (subst (λ k. Above k ps) (eqb-true p.0 j (sym (is_at-nat j p.0) ∙ is)) above)) ∙ state_of-empty i)
    ∙ join_of-unknown (state_of p.1 i)
packet_step p ps j i false is above = refl

state_of-packet_entries : (ps : List (ℕ × Table)) (q : ℕ) → IsStrictlySortedBy nat_cmp (keys_of ps) → ArePackets ps → state_of (table_of_entries (entries_of_packets ps)) q ≡ state_of (packet_at ps (q / 32)) (q % 32)
state_of-packet_entries [] q sorted h = state_of-empty q ∙ sym (state_of-empty (q % 32))
state_of-packet_entries (p ∷ ps) q sorted h =
    let above = sorted_head nat_cmp p.0 (keys_of ps) sorted in
    state_of-append (block_entries p.0 (entries_left p.1 0)) (entries_of_packets ps) q
    ∙ ap (λ s. join_of s (state_of (table_of_entries (entries_of_packets ps)) q)) (state_of-packet_block p.0 q p.1 ((first_packet p ps h).1))
    ∙ ap (join_of (cond (q / 32 == p.0) (state_of p.1 (q % 32)) Unknown)) (state_of-packet_entries ps q (sorted_tail nat_cmp p.0 (keys_of ps) sorted) (later_packets p ps above h))
    ∙ ap (λ b. join_of (cond b (state_of p.1 (q % 32)) Unknown) (state_of (packet_at ps (q / 32)) (q % 32))) (same_test (q / 32) p.0 ∙ sym (is_at-nat (q / 32) p.0))
    ∙ packet_step p ps (q / 32) (q % 32) (is_at (nat_cmp (q / 32)) p.0) refl above

first_from_zero : (ps : List (ℕ × Table)) → FirstFrom 0 ps
first_from_zero [] = tt
first_from_zero (p ∷ ps) = omega arith

pub rises-packet_entries : (m : BTreeMap ℕ Table) → IsPacketMap m → RisesFrom 0 (entries_of_packets m.entries)
rises-packet_entries m h = rises_packets 0 m.entries (first_from_zero m.entries) h.ordered h.each

pub packet_entries-entries_of : (m : BTreeMap ℕ Table) → IsPacketMap m → entries_of_packets m.entries ≡ entries_of (table_packets m.entries)
packet_entries-entries_of m h =
    sym (entries_of-rising 0 (entries_of_packets m.entries) (rises-packet_entries m h))
    ∙ ap entries_of (same_table (table_of_entries (entries_of_packets m.entries)) (table_packets m.entries) (λ q.
    state_of-packet_entries m.entries q h.ordered h.each ∙ sym (state_of-table_packets m.entries q h.each)))

pub few_packet_entries : (m : BTreeMap ℕ Table) → IsPacketMap m → length (entries_of_packets m.entries) ≤ 4194304
few_packet_entries m h =
    let few : 0 + length (entries_of_packets m.entries) ≤ 4194304 = few_entries 0 (entries_of_packets m.entries) (omega arith) (rises-packet_entries m h) in
    omega arith

abbrev NumberFits : ℕ × Table → Type 0
NumberFits p = p.0 < 131072

numbers_fit : (ps : List (ℕ × Table)) → IsStrictlySortedBy nat_cmp (keys_of ps) → ArePackets ps → All NumberFits ps
numbers_fit [] sorted h = All-nil NumberFits
numbers_fit (p ∷ ps) sorted h =
    let above = sorted_head nat_cmp p.0 (keys_of ps) sorted in
    All-cons NumberFits p ps ((first_packet p ps h).0) (numbers_fit ps (sorted_tail nat_cmp p.0 (keys_of ps) sorted) (later_packets p ps above h))

pub packet_numbers : (m : BTreeMap ℕ Table) → IsPacketMap m → All (λ (p : ℕ × Table). p.0 < 131072) m.entries
packet_numbers m h = numbers_fit m.entries h.ordered h.each

-- ---- counts
abbrev count_of : (State → Bool) → List (ℕ × State) → ℕ
count_of test es = count_by (λ (e : ℕ × State). test e.1) es

count_of-block : (test : State → Bool) (k : ℕ) (es : List (ℕ × State)) → count_of test (block_entries k es) ≡ count_of test es
count_of-block test k [] = refl
count_of-block test k (e ∷ es) =
    sum_by-cons (λ (x : ℕ × State). cond (test x.1) 1 0) (k * 32 + e.0, e.1) (block_entries k es)
    ∙ ap (λ n. cond (test e.1) 1 0 + n) (count_of-block test k es)
    ∙ sym (sum_by-cons (λ (x : ℕ × State). cond (test x.1) 1 0) e es)

count_of-packets : (test : State → Bool) (ps : List (ℕ × Table)) → IsStrictlySortedBy nat_cmp (keys_of ps) → ArePackets ps → count_of test (entries_of_packets ps) ≡ sum_by (λ (t : Table). count_of test (entries_of t)) (values_of ps)
count_of-packets test [] sorted h = refl
count_of-packets test (p ∷ ps) sorted h =
    sum_by-append (λ (x : ℕ × State). cond (test x.1) 1 0) (block_entries p.0 (entries_left p.1 0)) (entries_of_packets ps)
    ∙ ap (λ n. n + count_of test (entries_of_packets ps)) (count_of-block test p.0 (entries_left p.1 0) ∙ ap (count_of test) (entries_of-packet p.1 ((first_packet p ps h).1)))
    ∙ ap (λ n. count_of test (entries_of p.1) + n) (count_of-packets test ps (sorted_tail nat_cmp p.0 (keys_of ps) sorted) (later_packets p ps (sorted_head nat_cmp p.0 (keys_of ps) sorted) h))
    ∙ sym (sum_by-cons (λ (t : Table). count_of test (entries_of t)) p.1 (values_of ps))

pub known_count-packets : (m : BTreeMap ℕ Table) → IsPacketMap m → sum_by known_count (values_of m.entries) ≡ known_count (table_packets m.entries)
known_count-packets m h = sym (count_of-packets is_known m.entries h.ordered h.each) ∙ ap (count_of is_known) (packet_entries-entries_of m h)

pub conflict_count-packets : (m : BTreeMap ℕ Table) → IsPacketMap m → sum_by conflict_count (values_of m.entries) ≡ conflict_count (table_packets m.entries)
conflict_count-packets m h = sym (count_of-packets is_conflict m.entries h.ordered h.each) ∙ ap (count_of is_conflict) (packet_entries-entries_of m h)

pub few_counted : (test : State → Bool) (m : BTreeMap ℕ Table) → IsPacketMap m → sum_by (λ (t : Table). count_by (λ (e : ℕ × State). test e.1) (entries_of t)) (values_of m.entries) < 4294967296
few_counted test m h =
    let counted : count_of test (entries_of_packets m.entries) ≡ sum_by (λ (t : Table). count_of test (entries_of t)) (values_of m.entries) = count_of-packets test m.entries h.ordered h.each in
    let few : length (entries_of_packets m.entries) ≤ 4194304 = few_packet_entries m h in
    let fewer : count_of test (entries_of_packets m.entries) ≤ length (entries_of_packets m.entries) = count_by-le-length (λ (e : ℕ × State). test e.1) (entries_of_packets m.entries) in
    omega arith

-- ---- the first entry of several packets
pub found_first : (all now rest : List (ℕ × Table)) (k : ℕ) (t : Table) (i : ℕ) (s : State) → entries_of_packets all ≡ entries_of_packets now → All (λ (p : ℕ × Table). p.0 < 131072) now → now ≡ (k, t) ∷ rest → IsFirstLeft t 0 (i, s) → IsEntryFound all k t i s rest
found_first all now rest k t i s same small is first = record {
  number = All-head (λ (p : ℕ × Table). p.0 < 131072) (k, t) rest (subst (All (λ (p : ℕ × Table). p.0 < 131072)) is small);
  place = first.0;
  entries = same ∙ ap entries_of_packets is ∙ ap (λ l. block_entries k l ++ entries_of_packets rest) first.1;
}

pub later_numbers : (now rest : List (ℕ × Table)) (k : ℕ) (t : Table) → All (λ (p : ℕ × Table). p.0 < 131072) now → now ≡ (k, t) ∷ rest → All (λ (p : ℕ × Table). p.0 < 131072) rest
later_numbers now rest k t small is = All-tail (λ (p : ℕ × Table). p.0 < 131072) (k, t) rest (subst (All (λ (p : ℕ × Table). p.0 < 131072)) is small)

pub passed_over : (all now rest : List (ℕ × Table)) (k : ℕ) (t : Table) → entries_of_packets all ≡ entries_of_packets now → All (λ (p : ℕ × Table). p.0 < 131072) now → now ≡ (k, t) ∷ rest → entries_left t 0 ≡ [] → (entries_of_packets all ≡ entries_of_packets rest) × All (λ (p : ℕ × Table). p.0 < 131072) rest
passed_over all now rest k t same small is none =
    (same ∙ ap entries_of_packets is ∙ ap (λ l. block_entries k l ++ entries_of_packets rest) none, later_numbers now rest k t small is)
