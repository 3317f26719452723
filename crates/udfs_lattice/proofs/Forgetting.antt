-- Several blocks are forgotten, or those in conflict.
use Rattle.std.specs.Prelude.{◌≡◌, ◌⊎◌, ◌||◌, ◌==◌, ◌≤◌, ◌/◌, ◌%◌, ◌+◌, ℕ, Bool, true, false, cond, nat_lt, List, [], ◌∷◌, slice_index_or, Some, refl}
use Rattle.std.specs.Ordering.{nat_cmp}
use Rattle.std.specs.BTreeMap.{BTreeMap, get}
use Rattle.std.specs.Int.{bit_at}
use Rattle.std.specs.Str.{bytes_eq}
use Rattle.std.proofs.Common.{sym, ap, subst, ◌∙◌, inl, inr, arith}
use Rattle.std.proofs.lemmas.Bool.{eqb-true, eq-eqb, false≢true, ltb-false}
use Rattle.std.proofs.lemmas.Bool.Decides.{nat_tests}
use Rattle.std.proofs.lemmas.Nat.Bits.{bit_at-zero}
use Rattle.udfs_lattice.specs.declared.facts.Fact.TheVariants.{Unknown, Known, Conflict}
use Rattle.udfs_lattice.specs.Laws.{ForgettingAllCommutes, SettlingCommutes, NamedAreContained}
use Rattle.udfs_lattice.proofs.Inclusion.{Includes, included, contained}
use Rattle.udfs_lattice.specs.States.{State, join_of, is_known, is_conflict}
use Rattle.udfs_lattice.specs.Tables.{Table, state_of, join_tables, IsTable, IsStateAt, IsForgotten, AreForgotten, IsWithoutConflicts, is_named, without_conflict}
use Rattle.udfs_lattice.specs.TableLaws.{same_table, state_of-join_tables}
use Rattle.udfs_lattice.specs.Packets.{IsPacket, IsPlaceState, IsPacketTable, rank, table_packet}
use Rattle.udfs_lattice.specs.PacketTables.{table_packets, ArePackets, IsSettledIn}
use Rattle.udfs_lattice.proofs.PacketStates.{state_of-packet, bits_say, clear_bit}
use Rattle.udfs_lattice.proofs.PacketTables.{IsWritten, packet_found, state_of-updates, state_of-in}

-- ---- laws
named_here : (m n : ℕ) (b r : Bool) (P : Type 0) → (n == m) ≡ b → (r ≡ true → P) → (b || r) ≡ true → (m ≡ n) ⊎ P
named_here m n true r P is f h = inl (sym (eqb-true n m is))
named_here m n false r P is f h = inr (f h)

named_included : (ns : List ℕ) (n : ℕ) → is_named ns n ≡ true → Includes ns n
named_included [] n h = absurd (false≢true h)
named_included (m ∷ ns) n h = named_here m n (n == m) (is_named ns n) (Includes ns n) refl (named_included ns n) h

or_true : (b : Bool) → (b || true) ≡ true
or_true true = refl
or_true false = refl

included_named : (ns : List ℕ) (n : ℕ) → Includes ns n → is_named ns n ≡ true
included_named [] n h = absurd h
included_named (m ∷ ns) n (inl e) = ap (λ b. b || is_named ns n) (eq-eqb n m (sym e))
included_named (m ∷ ns) n (inr h) = ap (λ b. (n == m) || b) (included_named ns n h) ∙ or_true (n == m)

pub named_are_contained : NamedAreContained
named_are_contained ns n = (λ h. contained ns n (named_included ns n h), λ c. included_named ns n (included ns n c))

forgotten_joined : (t u v w : Table) (q : ℕ) (b : Bool) → state_of u q ≡ cond b Unknown (state_of t q) → (b ≡ true → state_of v q ≡ Unknown) → state_of w q ≡ cond b Unknown (state_of (join_tables t v) q)
    → state_of w q ≡ join_of (state_of u q) (state_of v q)
forgotten_joined t u v w q true old none new = new ∙ sym (none refl) ∙ ap (λ s. join_of s (state_of v q)) (sym old)
forgotten_joined t u v w q false old none new = new ∙ state_of-join_tables t v q ∙ ap (λ s. join_of s (state_of v q)) (sym old)

pub forgetting_all_commutes : ForgettingAllCommutes
forgetting_all_commutes t u v w ns old none new = same_table w (join_tables u v) (λ q. forgotten_joined t u v w q (is_named ns q) (old q) (λ h. none q (contained ns q (named_included ns q h))) (new q) ∙ sym (state_of-join_tables u v q))

not_known : (b : List ℕ) → Known b ≡ Unknown → ⊥
not_known b e = false≢true (sym (ap is_known e))

abbrev no_conflict : State
no_conflict = Conflict

not_conflict : no_conflict ≡ Unknown → ⊥
not_conflict e = false≢true (sym (ap is_conflict e))

settled_bytes : (r : Bool) (a : List ℕ) → (cond r (Known a) Conflict ≡ Conflict → ⊥) → without_conflict (cond r (Known a) Conflict) ≡ cond r (Known a) Conflict
settled_bytes true a h = refl
settled_bytes false a h = absurd (h refl)

-- where the join is in conflict the other says nothing
settled_join : (x y : State) → (join_of x y ≡ Conflict → y ≡ Unknown) → without_conflict (join_of x y) ≡ join_of (without_conflict x) y
settled_join Unknown Unknown h = refl
settled_join Unknown (Known b) h = refl
settled_join Unknown Conflict h = sym (h refl)
settled_join (Known a) Unknown h = refl
settled_join (Known a) (Known b) h = settled_bytes (bytes_eq a b) a (λ e. not_known b (h e))
settled_join (Known a) Conflict h = absurd (not_conflict (h refl))
settled_join Conflict Unknown h = refl
settled_join Conflict (Known b) h = absurd (not_known b (h refl))
settled_join Conflict Conflict h = absurd (not_conflict (h refl))

pub settling_commutes : SettlingCommutes
settling_commutes t u v w old none new = same_table w (join_tables u v) (λ q.
    new q ∙ ap without_conflict (state_of-join_tables t v q)
    ∙ settled_join (state_of t q) (state_of v q) (λ e. none q (state_of-join_tables t v q ∙ e))
    ∙ ap (λ s. join_of s (state_of v q)) (sym (old q))
    ∙ sym (state_of-join_tables u v q))

-- ---- a list of blocks, one after the other
one_of : (b c : Bool) (s : State) → cond c Unknown (cond b Unknown s) ≡ cond (b || c) Unknown s
one_of true true s = refl
one_of true false s = refl
one_of false c s = refl

pub forgotten_none : (t : Table) → AreForgotten t [] t
forgotten_none t q = refl

pub forgotten_first : (t u v : Table) (n : ℕ) (ns : List ℕ) → IsForgotten t n u → AreForgotten u ns v → AreForgotten t (n ∷ ns) v
forgotten_first t u v n ns one rest q = rest q ∙ ap (λ s. cond (is_named ns q) Unknown s) (one q) ∙ one_of (q == n) (is_named ns q) (state_of t q)

-- ---- one packet
none_set : (i : ℕ) → (bit_at 0 i == 1) ≡ false
none_set i = clear_bit 0 i (bit_at-zero i)

settled_bits : (b p c z : Bool) (v : List ℕ) → z ≡ false → cond b (bits_say p z v) Unknown ≡ without_conflict (cond b (bits_say p c v) Unknown)
settled_bits b p c true v e = absurd (false≢true (sym e))
settled_bits true true c false v e = refl
settled_bits true false true false v e = refl
settled_bits true false false false v e = refl
settled_bits false p c false v e = refl

-- the mask of the blocks in conflict is cleared
pub clears : (k c : ℕ) (bs : List (List ℕ)) (t : Table) → table_packet k c bs ≡ t → IsWithoutConflicts t (table_packet k 0 bs)
clears k c bs t view q =
    state_of-packet k 0 bs q
    ∙ settled_bits (nat_lt q 32) (bit_at k q == 1) (bit_at c q == 1) (bit_at 0 q == 1) (slice_index_or bs (rank k q) []) (none_set q)
    ∙ ap without_conflict (sym (state_of-packet k c bs q)) ∙ ap (λ u. without_conflict (state_of u q)) view

pub IsPacket-clears : (k c : ℕ) (bs : List (List ℕ)) → IsPacket k c bs → IsPacket k 0 bs
IsPacket-clears k c bs p = record { apart = λ i h set. bit_at-zero i; stored = p.stored; whole = p.whole }

-- ---- one packet of a table
place_settled : (i : ℕ) (s : State) → IsPlaceState i s → IsPlaceState i (without_conflict s)
place_settled i Unknown h = tt
place_settled i (Known bytes) h = h
place_settled i Conflict h = tt

pub settled_packet : (had u : Table) → IsPacketTable had → IsWithoutConflicts had u → IsPacketTable u
settled_packet had u h set q = subst (IsPlaceState q) (sym (set q)) (place_settled q (state_of had q) (h q))

settled_at : (old : BTreeMap ℕ Table) (k q : ℕ) (had u : Table) (b : Bool) → ArePackets old.entries → Some had ≡ get nat_cmp old k → IsWithoutConflicts had u → (q / 32 == k) ≡ b
    → cond b (state_of u (q % 32)) (state_of (table_packets old.entries) q) ≡ cond b (without_conflict (state_of (table_packets old.entries) q)) (state_of (table_packets old.entries) q)
settled_at old k q had u true h found set is =
    set (q % 32)
    ∙ ap without_conflict (sym (state_of-in old.entries k q h (eqb-true (q / 32) k is) ∙ ap (λ t. state_of t (q % 32)) (packet_found old k had found)))
settled_at old k q had u false h found set is = refl

pub settled : (old new : BTreeMap ℕ Table) (k : ℕ) (had u t : Table) → IsWritten old new k u → Some had ≡ get nat_cmp old k → table_packets old.entries ≡ t → IsWithoutConflicts had u → IsSettledIn t k (table_packets new.entries)
settled old new k had u t w found view set q =
    state_of-updates old new k u q w.was w.each w.updates
    ∙ settled_at old k q had u (q / 32 == k) w.was found set refl
    ∙ ap (λ x. cond (q / 32 == k) (without_conflict (state_of x q)) (state_of x q)) view

nothing_at : (t : Table) (k q : ℕ) (b : Bool) → (q / 32 == k) ≡ b → (q / 32 ≡ k → state_of t q ≡ Unknown) → state_of t q ≡ cond b (without_conflict (state_of t q)) (state_of t q)
nothing_at t k q true is none = none (eqb-true (q / 32) k is) ∙ ap without_conflict (sym (none (eqb-true (q / 32) k is)))
nothing_at t k q false is none = refl

-- there was no packet of this number
pub nothing_settled : (t : Table) (k : ℕ) → ((q : ℕ) → q / 32 ≡ k → state_of t q ≡ Unknown) → IsSettledIn t k t
nothing_settled t k none q = nothing_at t k q (q / 32 == k) refl (none q)

-- ---- all packets, one after the other: those below a number are settled
abbrev pub AreSettledBelow : Table → ℕ → Table → Type 0
AreSettledBelow t k u = (q : ℕ) → state_of u q ≡ cond (nat_lt (q / 32) k) (without_conflict (state_of t q)) (state_of t q)

none_below : (m : ℕ) → nat_lt m 0 ≡ false
none_below m = grind (arith, nat_tests)

pub settled_none : (t : Table) → AreSettledBelow t 0 t
settled_none t q = sym (ap (λ b. cond b (without_conflict (state_of t q)) (state_of t q)) (none_below (q / 32)))

twice : (s : State) → without_conflict (without_conflict s) ≡ without_conflict s
twice Unknown = refl
twice (Known bytes) = refl
twice Conflict = refl

now_below : (m k : ℕ) → (m == k) ≡ true → nat_lt m (k + 1) ≡ true
now_below m k e = grind (arith, nat_tests)

as_before : (m k : ℕ) → (m == k) ≡ false → nat_lt m k ≡ nat_lt m (k + 1)
as_before m k e = grind (arith, nat_tests)

more_at : (b c d : Bool) (s : State) → (b ≡ true → d ≡ true) → (b ≡ false → c ≡ d) → cond b (without_conflict (cond c (without_conflict s) s)) (cond c (without_conflict s) s) ≡ cond d (without_conflict s) s
more_at true true d s f g = twice s ∙ ap (λ x. cond x (without_conflict s) s) (sym (f refl))
more_at true false d s f g = ap (λ x. cond x (without_conflict s) s) (sym (f refl))
more_at false c d s f g = ap (λ x. cond x (without_conflict s) s) (g refl)

pub settled_more : (t u v : Table) (k : ℕ) → AreSettledBelow t k u → IsSettledIn u k v → AreSettledBelow t (k + 1) v
settled_more t u v k h one q =
    one q ∙ ap (λ s. cond (q / 32 == k) (without_conflict s) s) (h q)
    ∙ more_at (q / 32 == k) (nat_lt (q / 32) k) (nat_lt (q / 32) (k + 1)) (state_of t q) (now_below (q / 32) k) (as_before (q / 32) k)

beyond : (q : ℕ) (s : State) → IsStateAt q s → 4194304 ≤ q → s ≡ without_conflict s
beyond q Unknown h far = refl
beyond q (Known bytes) h far = refl
beyond q Conflict h far = absurd (omega arith)

all_at : (q k : ℕ) (b : Bool) (s : State) → 131072 ≤ k → nat_lt (q / 32) k ≡ b → IsStateAt q s → cond b (without_conflict s) s ≡ without_conflict s
all_at q k true s full is h = refl
all_at q k false s full is h = beyond q s h (omega (arith, ltb-false (q / 32) k is))

pub settled_all : (t u : Table) (k : ℕ) → IsTable t → 131072 ≤ k → AreSettledBelow t k u → IsWithoutConflicts t u
settled_all t u k sound full h q = h q ∙ all_at q k (nat_lt (q / 32) k) (state_of t q) full refl (sound q)
