-- The states of the table of a map of packets, and what a new packet in the map makes of it.
use Rattle.std.specs.Prelude.{◌≡◌, ℕ, ◌/◌, ◌%◌, ◌<◌, ◌≤◌, ◌==◌, Bool, true, false, cond, nat_lt, List, [], ◌+◌, ◌*◌, Option, Some, None, IsSome, Result, OnOk, OnErr, refl}
use Rattle.std.specs.Ordering.{nat_cmp}
use Rattle.std.specs.Map.{lookup}
use Rattle.std.specs.BTreeMap.{BTreeMap, is_at, get, Updates, WritesThrough}
use Rattle.std.specs.FinMap as fin
use Rattle.std.proofs.Common.{sym, ap, subst, ◌∙◌, arith, ⊎_elim, Ok, Err}
use Rattle.std.proofs.lemmas.Bool.{eqb-true, eqb-false, ltb-true, ltb-false, cases_lt}
use Rattle.std.proofs.lemmas.Bool.Decides.{nat_tests}
use Rattle.udfs_lattice.specs.declared.facts.Fact.TheVariants.{Unknown, Known, Conflict}
use Rattle.udfs_lattice.specs.States.{State, IsBelow, IsBelow-refl, join_of, join_of-unknown, IsBelow-join_of}
use Rattle.udfs_lattice.specs.Tables.{Table, fact_found, state_of, empty_table, one_entry, join_tables, IsTable, IsStateAt, IsTableBelow, IsForgotten}
use Rattle.udfs_lattice.specs.TableLaws.{same_table, state_of-empty, state_of-join_tables, state_of-one_entry, join_tables-empty, IsTableBelow-join_tables}
use Rattle.udfs_lattice.specs.Packets.{IsPlaceState, IsPacketTable, IsSetTo}
use Rattle.udfs_lattice.specs.PacketTables.{found_packet, packet_at, held_in, table_packets, held_in_one, one_packet, IsPacketFound, ArePackets, IsPacketMap, IsUnknownPacket}
use Rattle.udfs_lattice.proofs.PacketStates.{state_of-table_below, IsPacketTable-join, IsPacketTable-empty, IsPacketTable-one}

-- ---- the states
far_packet : (k : ℕ) (o : Option Table) (i : ℕ) → IsPacketFound k o → 131072 ≤ k → state_of (found_packet o) i ≡ Unknown
far_packet k None i h ge = state_of-empty i
far_packet k (Some t) i h ge = absurd (omega arith)

far_number : (q : ℕ) → nat_lt q 4194304 ≡ false → 131072 ≤ q / 32
far_number q is = omega (arith, ltb-false q 4194304 is)

in_range_or_far : (q : ℕ) (o : Option Table) (b : Bool) → nat_lt q 4194304 ≡ b → IsPacketFound (q / 32) o → cond b (state_of (found_packet o) (q % 32)) Unknown ≡ state_of (found_packet o) (q % 32)
in_range_or_far q o true is h = refl
in_range_or_far q o false is h = sym (far_packet (q / 32) o (q % 32) h (far_number q is))

-- the state of a block is that of its place in its packet
pub state_of-table_packets : (ps : List (ℕ × Table)) (q : ℕ) → ArePackets ps → state_of (table_packets ps) q ≡ state_of (packet_at ps (q / 32)) (q % 32)
unfolding table_packets
state_of-table_packets ps q h =
    state_of-table_below (held_in ps) 4194304 q
    ∙ in_range_or_far q (lookup (is_at (nat_cmp (q / 32))) ps) (nat_lt q 4194304) refl (h (q / 32))

place_at : (n i : ℕ) (s : State) → n ≤ 4194303 → IsPlaceState i s → IsStateAt n s
place_at n i Unknown le h = tt
place_at n i (Known bytes) le h = (le, h.1)
place_at n i Conflict le h = le

in_range : (q : ℕ) → nat_lt q 4194304 ≡ true → q ≤ 4194303
in_range q is = omega (arith, ltb-true q 4194304 is)

block_at : (n : ℕ) (o : Option Table) (b : Bool) → nat_lt n 4194304 ≡ b → IsPacketFound (n / 32) o → IsStateAt n (cond b (state_of (found_packet o) (n % 32)) Unknown)
block_at n None true is h = subst (IsStateAt n) (sym (state_of-empty (n % 32))) tt
block_at n (Some t) true is h = place_at n (n % 32) (state_of t (n % 32)) (in_range n is) (h.1 (n % 32))
block_at n o false is h = tt

pub IsTable-packets : (ps : List (ℕ × Table)) → ArePackets ps → IsTable (table_packets ps)
unfolding table_packets
IsTable-packets ps h n =
    subst (IsStateAt n) (sym (state_of-table_below (held_in ps) 4194304 n))
    (block_at n (lookup (is_at (nat_cmp (n / 32))) ps) (nat_lt n 4194304) refl (h (n / 32)))

-- ---- the table of one packet
one_found : (q k : ℕ) (t : Table) (b c : Bool) → nat_lt q 4194304 ≡ b → (q / 32 == k) ≡ c → k < 131072 → cond b (fact_found (cond c (fin.get t (q % 32)) None)) Unknown ≡ cond c (state_of t (q % 32)) Unknown
one_found q k t true true low is h = refl
one_found q k t true false low is h = refl
one_found q k t false true low is h = absurd (omega (arith, ltb-false q 4194304 low, eqb-true (q / 32) k is))
one_found q k t false false low is h = refl

pub state_of-one_packet : (k : ℕ) (t : Table) (q : ℕ) → k < 131072 → state_of (one_packet k t) q ≡ cond (q / 32 == k) (state_of t (q % 32)) Unknown
unfolding one_packet
state_of-one_packet k t q h =
    state_of-table_below (held_in_one k t) 4194304 q
    ∙ one_found q k t (nat_lt q 4194304) (q / 32 == k) refl refl h

one_at : (n q : ℕ) (s : State) (b c d : Bool) → (q == n) ≡ b → (q / 32 == n / 32) ≡ c → (q % 32 == n % 32) ≡ d → cond b s Unknown ≡ cond c (cond d s Unknown) Unknown
one_at n q s true true true e f g = refl
one_at n q s true true false e f g = absurd (eqb-false (q % 32) (n % 32) g (ap (λ x. x % 32) (eqb-true q n e)))
one_at n q s true false d e f g = absurd (eqb-false (q / 32) (n / 32) f (ap (λ x. x / 32) (eqb-true q n e)))
one_at n q s false true true e f g = absurd (eqb-false q n e (omega (arith, eqb-true (q / 32) (n / 32) f, eqb-true (q % 32) (n % 32) g)))
one_at n q s false true false e f g = refl
one_at n q s false false d e f g = refl

-- one block is one place of one packet
pub one_entry-one_packet : (n : ℕ) (s : State) → n ≤ 4194303 → one_entry n s ≡ one_packet (n / 32) (one_entry (n % 32) s)
one_entry-one_packet n s h = same_table (one_entry n s) (one_packet (n / 32) (one_entry (n % 32) s)) (λ q.
    state_of-one_entry n s q
    ∙ one_at n q s (q == n) (q / 32 == n / 32) (q % 32 == n % 32) refl refl refl
    ∙ ap (λ x. cond (q / 32 == n / 32) x Unknown) (sym (state_of-one_entry (n % 32) s (q % 32)))
    ∙ sym (state_of-one_packet (n / 32) (one_entry (n % 32) s) q (omega arith)))

-- ---- a new packet in the map
pub is_at-nat : (k q : ℕ) → is_at (nat_cmp k) q ≡ (q == k)
is_at-nat k q = grind (arith, nat_tests)

put_in : (k : ℕ) (u : Table) (q : ℕ) (o : Option Table) (b : Bool) → (q == k) ≡ b → k < 131072 → IsPacketTable u → IsPacketFound q o → IsPacketFound q (cond b (Some u) o)
put_in k u q o true is low packet h = (subst (λ j. j < 131072) (sym (eqb-true q k is)) low, packet)
put_in k u q o false is low packet h = h

pub ArePackets-updates : (old new : BTreeMap ℕ Table) (k : ℕ) (u : Table) → ArePackets old.entries → Updates nat_cmp old new k (Some u) → k < 131072 → IsPacketTable u → ArePackets new.entries
ArePackets-updates old new k u h up low packet q =
    subst (IsPacketFound q) (sym (up.0 q ∙ ap (λ b. cond b (Some u) (get nat_cmp old q)) (is_at-nat k q)))
    (put_in k u q (get nat_cmp old q) (q == k) refl low packet (h q))

pushed : (b : Bool) (u : Table) (o : Option Table) (i : ℕ) → state_of (found_packet (cond b (Some u) o)) i ≡ cond b (state_of u i) (state_of (found_packet o) i)
pushed true u o i = refl
pushed false u o i = refl

-- the state of a block in the map with a new packet at k
pub state_of-updates : (old new : BTreeMap ℕ Table) (k : ℕ) (u : Table) (q : ℕ) → ArePackets old.entries → ArePackets new.entries → Updates nat_cmp old new k (Some u) → state_of (table_packets new.entries) q ≡ cond (q / 32 == k) (state_of u (q % 32)) (state_of (table_packets old.entries) q)
state_of-updates old new k u q h g up =
    state_of-table_packets new.entries q g
    ∙ ap (λ o. state_of (found_packet o) (q % 32)) (up.0 (q / 32))
    ∙ pushed (is_at (nat_cmp k) (q / 32)) u (get nat_cmp old (q / 32)) (q % 32)
    ∙ ap (λ b. cond b (state_of u (q % 32)) (state_of (packet_at old.entries (q / 32)) (q % 32))) (is_at-nat k (q / 32))
    ∙ ap (cond (q / 32 == k) (state_of u (q % 32))) (sym (state_of-table_packets old.entries q h))

-- the state of a block whose packet is k
pub state_of-in : (ps : List (ℕ × Table)) (k q : ℕ) → ArePackets ps → q / 32 ≡ k → state_of (table_packets ps) q ≡ state_of (packet_at ps k) (q % 32)
state_of-in ps k q h e = state_of-table_packets ps q h ∙ ap (λ j. state_of (packet_at ps j) (q % 32)) e

-- what is new in the map of packets: the packet u at k, which lies between the old one there and its join with v
pub record IsWritten (old new : BTreeMap ℕ Table) (k : ℕ) (u : Table) : Type 0 where
  pub number : k < 131072
  pub was : ArePackets old.entries
  pub each : ArePackets new.entries
  pub updates : Updates nat_cmp old new k (Some u)

above_at : (old : BTreeMap ℕ Table) (k : ℕ) (u : Table) (q : ℕ) (b : Bool) → ArePackets old.entries → IsTableBelow (packet_at old.entries k) u → (q / 32 == k) ≡ b → IsBelow (state_of (table_packets old.entries) q) (cond b (state_of u (q % 32)) (state_of (table_packets old.entries) q))
above_at old k u q true h below is = subst (λ s. IsBelow s (state_of u (q % 32))) (sym (state_of-in old.entries k q h (eqb-true (q / 32) k is))) (below (q % 32))
above_at old k u q false h below is = IsBelow-refl (state_of (table_packets old.entries) q)

-- where the new packet lies above the old one, the table does
pub written_above : (old new : BTreeMap ℕ Table) (k : ℕ) (u : Table) → IsWritten old new k u → IsTableBelow (packet_at old.entries k) u → IsTableBelow (table_packets old.entries) (table_packets new.entries)
written_above old new k u w below q =
    subst (IsBelow (state_of (table_packets old.entries) q)) (sym (state_of-updates old new k u q w.was w.each w.updates))
    (above_at old k u q (q / 32 == k) w.was below refl)

below_at : (old : BTreeMap ℕ Table) (k : ℕ) (u v : Table) (q : ℕ) (b : Bool) → ArePackets old.entries → IsTableBelow u (join_tables (packet_at old.entries k) v) → (q / 32 == k) ≡ b → IsBelow (cond b (state_of u (q % 32)) (state_of (table_packets old.entries) q)) (join_of (state_of (table_packets old.entries) q) (cond b (state_of v (q % 32)) Unknown))
below_at old k u v q true h below is =
    subst (IsBelow (state_of u (q % 32)))
    (state_of-join_tables (packet_at old.entries k) v (q % 32) ∙ ap (λ s. join_of s (state_of v (q % 32))) (sym (state_of-in old.entries k q h (eqb-true (q / 32) k is))))
    (below (q % 32))
below_at old k u v q false h below is = IsBelow-join_of (state_of (table_packets old.entries) q) Unknown

-- where it lies below the join of the old one and another, the table lies below the join with that other
pub written_below : (old new : BTreeMap ℕ Table) (k : ℕ) (u v : Table) → IsWritten old new k u → IsTableBelow u (join_tables (packet_at old.entries k) v) → IsTableBelow (table_packets new.entries) (join_tables (table_packets old.entries) (one_packet k v))
written_below old new k u v w below q =
    subst (λ s. IsBelow s (state_of (join_tables (table_packets old.entries) (one_packet k v)) q)) (sym (state_of-updates old new k u q w.was w.each w.updates))
    (subst (IsBelow (cond (q / 32 == k) (state_of u (q % 32)) (state_of (table_packets old.entries) q)))
    (sym (state_of-join_tables (table_packets old.entries) (one_packet k v) q ∙ ap (join_of (state_of (table_packets old.entries) q)) (state_of-one_packet k v q w.number)))
    (below_at old k u v q (q / 32 == k) w.was below refl))

joined_at : (old : BTreeMap ℕ Table) (k : ℕ) (u v : Table) (q : ℕ) (b : Bool) → ArePackets old.entries → u ≡ join_tables (packet_at old.entries k) v → (q / 32 == k) ≡ b → cond b (state_of u (q % 32)) (state_of (table_packets old.entries) q) ≡ join_of (state_of (table_packets old.entries) q) (cond b (state_of v (q % 32)) Unknown)
joined_at old k u v q true h e is =
    ap (λ t. state_of t (q % 32)) e ∙ state_of-join_tables (packet_at old.entries k) v (q % 32)
    ∙ ap (λ s. join_of s (state_of v (q % 32))) (sym (state_of-in old.entries k q h (eqb-true (q / 32) k is)))
joined_at old k u v q false h e is = sym (join_of-unknown (state_of (table_packets old.entries) q))

-- where it is the join of the old one and another, the table is the join with that other
pub written_joined : (old new : BTreeMap ℕ Table) (k : ℕ) (u v : Table) → IsWritten old new k u → u ≡ join_tables (packet_at old.entries k) v → table_packets new.entries ≡ join_tables (table_packets old.entries) (one_packet k v)
written_joined old new k u v w e = same_table (table_packets new.entries) (join_tables (table_packets old.entries) (one_packet k v)) (λ q.
    state_of-updates old new k u q w.was w.each w.updates
    ∙ joined_at old k u v q (q / 32 == k) w.was e refl
    ∙ ap (join_of (state_of (table_packets old.entries) q)) (sym (state_of-one_packet k v q w.number))
    ∙ sym (state_of-join_tables (table_packets old.entries) (one_packet k v) q))

same_at : (old : BTreeMap ℕ Table) (k : ℕ) (u : Table) (q : ℕ) (b : Bool) → ArePackets old.entries → u ≡ packet_at old.entries k → (q / 32 == k) ≡ b → cond b (state_of u (q % 32)) (state_of (table_packets old.entries) q) ≡ state_of (table_packets old.entries) q
same_at old k u q true h e is = ap (λ t. state_of t (q % 32)) e ∙ sym (state_of-in old.entries k q h (eqb-true (q / 32) k is))
same_at old k u q false h e is = refl

-- where it is the old one, the table is the old one
pub written_same : (old new : BTreeMap ℕ Table) (k : ℕ) (u : Table) → IsWritten old new k u → u ≡ packet_at old.entries k → table_packets new.entries ≡ table_packets old.entries
written_same old new k u w e = same_table (table_packets new.entries) (table_packets old.entries) (λ q.
    state_of-updates old new k u q w.was w.each w.updates ∙ same_at old k u q (q / 32 == k) w.was e refl)

-- ---- what the map tells of a packet
pub packet_found : (m : BTreeMap ℕ Table) (k : ℕ) (had : Table) → Some had ≡ get nat_cmp m k → packet_at m.entries k ≡ had
packet_found m k had found = ap found_packet (sym found)

pub found_is_packet : (m : BTreeMap ℕ Table) (k : ℕ) (had : Table) → ArePackets m.entries → Some had ≡ get nat_cmp m k → (k < 131072) × IsPacketTable had
found_is_packet m k had h found = subst (IsPacketFound k) (sym found) (h k)

-- the state of a block of the packet that is found
pub state_in_packet : (m : BTreeMap ℕ Table) (t : Table) (n : ℕ) (had : Table) → IsPacketMap m → table_packets m.entries ≡ t → Some had ≡ get nat_cmp m (n / 32) → state_of t n ≡ state_of had (n % 32)
state_in_packet m t n had h view found =
    sym (ap (λ u. state_of u n) view) ∙ state_of-table_packets m.entries n h.each
    ∙ ap (λ u. state_of u (n % 32)) (packet_found m (n / 32) had found)

-- the state of a block that is so many places on in the same packet
pub state_beside : (m : BTreeMap ℕ Table) (t : Table) (n j : ℕ) (had : Table) → IsPacketMap m → table_packets m.entries ≡ t → Some had ≡ get nat_cmp m (n / 32) → n % 32 + j < 32 → state_of t (n + j) ≡ state_of had (n % 32 + j)
state_beside m t n j had h view found near =
    state_in_packet m t (n + j) had h view (subst (λ k. Some had ≡ get nat_cmp m k) (let z : n / 32 ≡ (n + j) / 32 = omega (arith, near) in z) found)
    ∙ ap (state_of had) (omega (arith, near))

pub unknown_packet : (m : BTreeMap ℕ Table) (t : Table) (k : ℕ) → IsPacketMap m → table_packets m.entries ≡ t → None ≡ get nat_cmp m k → IsUnknownPacket t k
unknown_packet m t k h view missing q e =
    sym (ap (λ u. state_of u q) view) ∙ state_of-in m.entries k q h.each e
    ∙ ap (λ o. state_of (found_packet o) (q % 32)) (sym missing) ∙ state_of-empty (q % 32)

pub IsTable-view : (m : BTreeMap ℕ Table) (t : Table) → IsPacketMap m → table_packets m.entries ≡ t → IsTable t
IsTable-view m t h view = subst IsTable view (IsTable-packets m.entries h.each)

-- ---- what the map is after `get_mut` lent the packet `had`, and u was left there
pub lent : (old new : BTreeMap ℕ Table) (k : ℕ) (had u : Table) → IsPacketMap old → Some had ≡ get nat_cmp old k → WritesThrough nat_cmp (nat_cmp k) old u new → IsPacketTable u → IsWritten old new k u
lent old new k had u h found w packet =
    let number = (found_is_packet old k had h.each found).0 in
    let up : Updates nat_cmp old new k (Some u) = w.3 (subst IsSome found refl) in
    record { number = number; was = h.each; each = ArePackets-updates old new k u h.each up number packet; updates = up }

pub IsPacketMap-lent : (old new : BTreeMap ℕ Table) (k : ℕ) (had u : Table) → IsPacketMap old → Some had ≡ get nat_cmp old k → WritesThrough nat_cmp (nat_cmp k) old u new → IsPacketTable u → IsPacketMap new
IsPacketMap-lent old new k had u h found w packet = record { ordered = w.4; each = (lent old new k had u h found w packet).each }

-- one block was joined in
pub entered : (old new : BTreeMap ℕ Table) (n : ℕ) (s : State) (had u t : Table) → IsWritten old new (n / 32) u → Some had ≡ get nat_cmp old (n / 32) → n ≤ 4194303 → table_packets old.entries ≡ t → u ≡ join_tables had (one_entry (n % 32) s) → table_packets new.entries ≡ join_tables t (one_entry n s)
entered old new n s had u t w found le view is =
    written_joined old new (n / 32) u (one_entry (n % 32) s) w (is ∙ ap (λ x. join_tables x (one_entry (n % 32) s)) (sym (packet_found old (n / 32) had found)))
    ∙ ap (λ x. join_tables x (one_packet (n / 32) (one_entry (n % 32) s))) view
    ∙ ap (join_tables t) (sym (one_entry-one_packet n s le))

pub not_entered : (old new : BTreeMap ℕ Table) (k : ℕ) (had u t : Table) → IsWritten old new k u → Some had ≡ get nat_cmp old k → table_packets old.entries ≡ t → u ≡ had → table_packets new.entries ≡ t
not_entered old new k had u t w found view is = written_same old new k u w (is ∙ sym (packet_found old k had found)) ∙ view

-- the packet that a refused or successful `add` leaves
pub added_packet : {T E : Type 0} (r : Result T E) (t u : Table) (n i : ℕ) (s : State) → IsPacketTable t → i < 32 → IsStateAt n s → OnOk r (u ≡ join_tables t (one_entry i s)) → OnErr r (u ≡ t) → IsPacketTable u
added_packet (Ok x) t u n i s h small fits ok err = subst IsPacketTable (sym ok) (IsPacketTable-join t (one_entry i s) h (IsPacketTable-one n i s small fits))
added_packet (Err x) t u n i s h small fits ok err = subst IsPacketTable (sym err) h

-- ---- a packet that was not there
is_packet : (k : ℕ) (o : Option Table) → IsPacketFound k o → IsPacketTable (found_packet o)
is_packet k None h = IsPacketTable-empty
is_packet k (Some t) h = h.1

beyond_place : (i : ℕ) (s : State) → IsPlaceState i s → 32 ≤ i → s ≡ Unknown
beyond_place i Unknown h le = refl
beyond_place i (Known bytes) h le = absurd (omega arith)
beyond_place i Conflict h le = absurd (omega arith)

block_number : (k i : ℕ) → i < 32 → ((k * 32 + i) / 32 ≡ k) × ((k * 32 + i) % 32 ≡ i)
block_number k i h = (omega arith, omega arith)

pub empty_packet : (ps : List (ℕ × Table)) (t : Table) (k : ℕ) → ArePackets ps → table_packets ps ≡ t → IsUnknownPacket t k → packet_at ps k ≡ empty_table
empty_packet ps t k h view none = same_table (packet_at ps k) empty_table (λ i. ⊎_elim
    (λ lt. let at = block_number k i lt in
    ap (state_of (packet_at ps k)) (sym at.1) ∙ sym (state_of-in ps k (k * 32 + i) h at.0) ∙ ap (λ u. state_of u (k * 32 + i)) view ∙ none (k * 32 + i) at.0 ∙ sym (state_of-empty i))
    (λ ge. beyond_place i (state_of (packet_at ps k) i) (is_packet k (lookup (is_at (nat_cmp k)) ps) (h k) i) ge ∙ sym (state_of-empty i))
    (cases_lt i 32))

pub inserted : (old new : BTreeMap ℕ Table) (k : ℕ) (u t : Table) → ArePackets old.entries → table_packets old.entries ≡ t → IsUnknownPacket t k → Updates nat_cmp old new k (Some u) → k < 131072 → IsPacketTable u → table_packets new.entries ≡ join_tables t (one_packet k u)
inserted old new k u t h view none up low packet =
    written_joined old new k u u (record { number = low; was = h; each = ArePackets-updates old new k u h up low packet; updates = up })
    (sym (join_tables-empty u) ∙ ap (λ x. join_tables x u) (sym (empty_packet old.entries t k h view none)))
    ∙ ap (λ x. join_tables x (one_packet k u)) view

pub table_packets-none : (ps : List (ℕ × Table)) → ps ≡ [] → table_packets ps ≡ empty_table
table_packets-none ps e = ap table_packets e ∙ same_table (table_packets []) empty_table (λ q. state_of-table_packets [] q (λ k. tt) ∙ state_of-empty (q % 32) ∙ sym (state_of-empty q))

-- a new packet with one block
pub new_packet : (n : ℕ) (s : State) (none u was t now : Table) → n ≤ 4194303 → none ≡ empty_table → u ≡ join_tables none (one_entry (n % 32) s) → was ≡ t → now ≡ join_tables was (one_packet (n / 32) u) → now ≡ join_tables t (one_entry n s)
new_packet n s none u was t now le fresh is view joined =
    joined ∙ ap (λ x. join_tables was (one_packet (n / 32) x)) (is ∙ ap (λ x. join_tables x (one_entry (n % 32) s)) fresh ∙ join_tables-empty (one_entry (n % 32) s))
    ∙ ap (join_tables was) (sym (one_entry-one_packet n s le))
    ∙ ap (λ x. join_tables x (one_entry n s)) view

-- ---- a packet that is joined with another
pub packet_joined : (old new : BTreeMap ℕ Table) (k : ℕ) (v had u t : Table) → IsWritten old new k u → Some had ≡ get nat_cmp old k → table_packets old.entries ≡ t → u ≡ join_tables had v → table_packets new.entries ≡ join_tables t (one_packet k v)
packet_joined old new k v had u t w found view is =
    written_joined old new k u v w (is ∙ ap (λ x. join_tables x v) (sym (packet_found old k had found)))
    ∙ ap (λ x. join_tables x (one_packet k v)) view

pub packet_above : (old new : BTreeMap ℕ Table) (k : ℕ) (had u t : Table) → IsWritten old new k u → Some had ≡ get nat_cmp old k → table_packets old.entries ≡ t → IsTableBelow had u → IsTableBelow t (table_packets new.entries)
packet_above old new k had u t w found view below =
    subst (λ x. IsTableBelow x (table_packets new.entries)) view
    (written_above old new k u w (subst (λ x. IsTableBelow x u) (sym (packet_found old k had found)) below))

pub packet_below : (old new : BTreeMap ℕ Table) (k : ℕ) (v had u t : Table) → IsWritten old new k u → Some had ≡ get nat_cmp old k → table_packets old.entries ≡ t → IsTableBelow u (join_tables had v) → IsTableBelow (table_packets new.entries) (join_tables t (one_packet k v))
packet_below old new k v had u t w found view below =
    subst (λ x. IsTableBelow (table_packets new.entries) (join_tables x (one_packet k v))) view
    (written_below old new k u v w (subst (λ x. IsTableBelow u (join_tables x v)) (sym (packet_found old k had found)) below))

-- a new packet that is the other one
pub new_joined : (k : ℕ) (v none u was t now : Table) → none ≡ empty_table → u ≡ join_tables none v → was ≡ t → now ≡ join_tables was (one_packet k u) → now ≡ join_tables t (one_packet k v)
new_joined k v none u was t now fresh is view joined =
    joined ∙ ap (λ x. join_tables was (one_packet k x)) (is ∙ ap (λ x. join_tables x v) fresh ∙ join_tables-empty v)
    ∙ ap (λ x. join_tables x (one_packet k v)) view

-- a table that did not change lies below the join
pub same_below : (now t v : Table) → now ≡ t → IsTableBelow now (join_tables t v)
same_below now t v is = subst (λ x. IsTableBelow x (join_tables t v)) (sym is) (IsTableBelow-join_tables t v)

one_below_at : (ps : List (ℕ × Table)) (k : ℕ) (v : Table) (q : ℕ) (b : Bool) → ArePackets ps → packet_at ps k ≡ v → (q / 32 == k) ≡ b → IsBelow (cond b (state_of v (q % 32)) Unknown) (state_of (table_packets ps) q)
one_below_at ps k v q true h found is = subst (IsBelow (state_of v (q % 32))) (sym (state_of-in ps k q h (eqb-true (q / 32) k is) ∙ ap (λ u. state_of u (q % 32)) found)) (IsBelow-refl (state_of v (q % 32)))
one_below_at ps k v q false h found is = tt

-- a packet of a table lies below it
pub one_below : (m : BTreeMap ℕ Table) (k : ℕ) (v t : Table) → IsPacketMap m → table_packets m.entries ≡ t → Some v ≡ get nat_cmp m k → IsTableBelow (one_packet k v) t
one_below m k v t h view found = subst (IsTableBelow (one_packet k v)) view (λ q.
    subst (λ s. IsBelow s (state_of (table_packets m.entries) q)) (sym (state_of-one_packet k v q ((found_is_packet m k v h.each found).0)))
    (one_below_at m.entries k v q (q / 32 == k) h.each (packet_found m k v found) refl))

-- ---- a block is forgotten
place_unknown : (i : ℕ) (s : State) (b : Bool) → IsPlaceState i s → IsPlaceState i (cond b Unknown s)
place_unknown i s true h = tt
place_unknown i s false h = h

pub forgotten_packet : (had u : Table) (i : ℕ) → IsPacketTable had → IsSetTo had i Unknown u → IsPacketTable u
forgotten_packet had u i h set q = subst (IsPlaceState q) (sym (set q)) (place_unknown q (state_of had q) (q == i) (h q))

same_place : (q n : ℕ) → q / 32 ≡ n / 32 → (q % 32 == n % 32) ≡ (q == n)
same_place q n e = grind (arith, nat_tests)

other_block : (q n : ℕ) → (q / 32 == n / 32) ≡ false → (q == n) ≡ false
other_block q n e = grind (arith, nat_tests)

forgotten_at : (old : BTreeMap ℕ Table) (n q : ℕ) (had u : Table) (b : Bool) → ArePackets old.entries → Some had ≡ get nat_cmp old (n / 32) → IsSetTo had (n % 32) Unknown u → (q / 32 == n / 32) ≡ b
    → cond b (state_of u (q % 32)) (state_of (table_packets old.entries) q) ≡ cond (q == n) Unknown (state_of (table_packets old.entries) q)
forgotten_at old n q had u true h found set is =
    let k = eqb-true (q / 32) (n / 32) is in
    set (q % 32) ∙ ap (λ e. cond e Unknown (state_of had (q % 32))) (same_place q n k)
    ∙ ap (λ s. cond (q == n) Unknown s) (sym (state_of-in old.entries (n / 32) q h k ∙ ap (λ t. state_of t (q % 32)) (packet_found old (n / 32) had found)))
forgotten_at old n q had u false h found set is = sym (ap (λ e. cond e Unknown (state_of (table_packets old.entries) q)) (other_block q n is))

pub forgotten : (old new : BTreeMap ℕ Table) (n : ℕ) (had u t : Table) → IsWritten old new (n / 32) u → Some had ≡ get nat_cmp old (n / 32) → table_packets old.entries ≡ t → IsSetTo had (n % 32) Unknown u → IsForgotten t n (table_packets new.entries)
forgotten old new n had u t w found view set q =
    state_of-updates old new (n / 32) u q w.was w.each w.updates
    ∙ forgotten_at old n q had u (q / 32 == n / 32) w.was found set refl
    ∙ ap (λ x. cond (q == n) Unknown (state_of x q)) view

nothing_at : (t : Table) (n q : ℕ) (b : Bool) → (q == n) ≡ b → state_of t n ≡ Unknown → state_of t q ≡ cond b Unknown (state_of t q)
nothing_at t n q true is none = ap (state_of t) (eqb-true q n is) ∙ none
nothing_at t n q false is none = refl

-- there was no packet of the block
pub nothing_forgotten : (t : Table) (n : ℕ) → state_of t n ≡ Unknown → IsForgotten t n t
nothing_forgotten t n none q = nothing_at t n q (q == n) refl none
