-- The packets of a table: their numbers rise, their table is that table, and rising packets are those of their table.
use Rattle.std.proofs.Common.{◌≡◌, ℕ, zero, suc, ◌+◌, ◌-◌, ◌*◌, ◌<◌, ◌≤◌, Bool, true, false, cond, List, [], ◌∷◌, ◌++◌, length, refl, sym, ap, subst, ◌∙◌, append_assoc, append-nil, arith, length-append, ⊎_elim}
use Rattle.std.specs.List.{flat_map}
use Rattle.std.proofs.lemmas.Bool.{cases_lt}
use Rattle.std.proofs.lemmas.List.Concat.{flat_map-append}
use Rattle.udfs_lattice.specs.declared.facts.Fact.TheVariants.{Unknown, Known, Conflict}
use Rattle.udfs_lattice.specs.States.{State}
use Rattle.udfs_lattice.specs.Tables.{Table, state_of, IsStateAt, IsTable}
use Rattle.udfs_lattice.specs.TableLaws.{same_table, state_of-empty}
use Rattle.udfs_lattice.specs.Records.{table_of_entries, RisesFrom}
use Rattle.udfs_lattice.proofs.PublicLaws.{rising_make_table}
use Rattle.udfs_reading.specs.PacketFile.{Packet, states_from, says_some, some_packet, packets_below, packets_of}
use Rattle.udfs_reading.specs.PacketReading.{AreStates, PacketsRise, low_after, listed, packet_entries, table_of_packets}
use Rattle.udfs_reading.proofs.PacketStates.{states-none, length-states, held-states, states-same, states-tell, states-unknown, listed-unsaid, listed-append, states-append, rises-weaken, rises-listed, unknown-below, state-past, states-listed}

-- the packet p of a table
abbrev pub packet_at : Table → ℕ → Packet
packet_at t p = (p, states_from t (32 * p) 32)

-- ---- the packets below a number

pub below_none : (t : Table) → packets_below t 0 ≡ []
unfolding packets_below
below_none t = refl

below_next : (t : Table) (p : ℕ) → packets_below t (suc p) ≡ packets_below t p ++ some_packet (packet_at t p)
unfolding packets_below
below_next t p = refl

-- blocks that are all unknown make no packet
nothing_in : (t : Table) (a k : ℕ) → ((q : ℕ) → 32 * a ≤ q → q < 32 * (k + a) → state_of t q ≡ Unknown) → packets_below t (k + a) ≡ packets_below t a
nothing_in t a zero h = let z : 0 + a ≡ a = omega arith in ap (packets_below t) z
nothing_in t a (suc k) h =
    let z : suc k + a ≡ suc (k + a) = omega arith in
    let none : says_some (states_from t (32 * (k + a)) 32) ≡ false = states-unknown t (32 * (k + a)) 32 (λ q le lt. h q (omega arith) (omega arith)) in
    ap (packets_below t) z ∙ below_next t (k + a)
    ∙ ap (λ (b : Bool). packets_below t (k + a) ++ cond b (packet_at t (k + a) ∷ []) []) none
    ∙ append-nil (packets_below t (k + a))
    ∙ nothing_in t a k (λ q le lt. h q le (omega arith))

pub nothing_between : (t : Table) (a p : ℕ) → a ≤ p → ((q : ℕ) → 32 * a ≤ q → q < 32 * p → state_of t q ≡ Unknown) → packets_below t p ≡ packets_below t a
nothing_between t a p le h =
    let z : p ≡ (p - a) + a = omega arith in
    ap (packets_below t) z ∙ nothing_in t a (p - a) (λ q low high. h q low (omega arith))

-- the next packet that says something
pub next_packet : (t : Table) (a p : ℕ) → a ≤ p → ((q : ℕ) → 32 * a ≤ q → q < 32 * p → state_of t q ≡ Unknown) → says_some (states_from t (32 * p) 32) ≡ true
    → packets_below t (p + 1) ≡ packets_below t a ++ packet_at t p ∷ []
next_packet t a p le h some =
    let z : p + 1 ≡ suc p = omega arith in
    ap (packets_below t) z ∙ below_next t p
    ∙ ap (λ (b : Bool). packets_below t p ++ cond b (packet_at t p ∷ []) []) some
    ∙ ap (λ (l : List Packet). l ++ packet_at t p ∷ []) (nothing_between t a p le h)

-- and after the last of them
pub no_more : (t : Table) (a : ℕ) → a ≤ 131072 → ((q : ℕ) → 32 * a ≤ q → state_of t q ≡ Unknown) → packets_of t ≡ packets_below t a
unfolding packets_of
no_more t a le h = nothing_between t a 131072 le (λ q low high. h q low)

-- ---- rising packets are those of their table

pub rises-entries : (low : ℕ) (qs : List Packet) → low ≤ 131072 → PacketsRise low qs → RisesFrom (32 * low) (flat_map packet_entries qs)
rises-entries low [] fits h = tt
rises-entries low (q ∷ qs) fits h =
    let first = h.0 in
    let there = h.1 in
    let many = h.2.many in
    let rest : RisesFrom (32 * (q.0 + 1)) (flat_map packet_entries qs) = rises-entries (q.0 + 1) qs (omega arith) h.3 in
    let z : 32 * (q.0 + 1) ≡ 32 * q.0 + length q.1 = omega arith in
    rises-weaken (32 * low) (32 * q.0) _ (omega arith)
    (rises-listed (32 * q.0) q.1 (flat_map packet_entries qs) (omega arith) h.2.each (subst (λ (k : ℕ). RisesFrom k (flat_map packet_entries qs)) z rest))

pub IsTable-packets : (qs : List Packet) → PacketsRise 0 qs → IsTable (table_of_packets qs)
IsTable-packets qs h = rising_make_table (flat_map packet_entries qs) (rises-entries 0 qs (omega arith) h)

rising_packets : (qs : List Packet) (low : ℕ) (t : Table) → low ≤ 131072 → PacketsRise low qs → ((q : ℕ) → 32 * low ≤ q → state_of t q ≡ state_of (table_of_packets qs) q) → packets_of t ≡ packets_below t low ++ qs
rising_packets [] low t fits h same = no_more t low fits (λ q le. same q le ∙ state_of-empty q) ∙ sym (append-nil (packets_below t low))
rising_packets (r ∷ qs) low t fits h same =
    let first = h.0 in
    let there = h.1 in
    let many = h.2.many in
    let rest = flat_map packet_entries qs in
    let n = 32 * r.0 in
    let z : 32 * (r.0 + 1) ≡ n + length r.1 = omega arith in
    let later : RisesFrom (n + length r.1) rest = subst (λ (k : ℕ). RisesFrom k rest) z (rises-entries (r.0 + 1) qs (omega arith) h.3) in
    let rises : RisesFrom n (listed n r.1 ++ rest) = rises-listed n r.1 rest (omega arith) h.2.each later in
    let states : states_from t n 32 ≡ r.1 =
    states-same t (table_of_packets (r ∷ qs)) n 32 (λ q le. same q (omega arith))
    ∙ subst (λ (m : ℕ). states_from (table_of_packets (r ∷ qs)) n m ≡ r.1) many (states-listed n r.1 rest (omega arith) h.2.each later) in
    let here : packets_below t (r.0 + 1) ≡ packets_below t low ++ packet_at t r.0 ∷ [] =
    next_packet t low r.0 first (λ q le lt. same q le ∙ unknown-below n (listed n r.1 ++ rest) q rises lt) (ap says_some states ∙ h.2.some) in
    rising_packets qs (r.0 + 1) t (omega arith) h.3 (λ q le. same q (omega arith) ∙ state-past n r.1 rest q (omega arith))
    ∙ ap (λ (l : List Packet). l ++ qs) (here ∙ ap (λ (ss : List State). packets_below t low ++ (r.0, ss) ∷ []) states)
    ∙ append_assoc (packets_below t low) (r ∷ []) qs

pub packets_of-rising : (qs : List Packet) → PacketsRise 0 qs → packets_of (table_of_packets qs) ≡ qs
packets_of-rising qs h = rising_packets qs 0 (table_of_packets qs) (omega arith) h (λ q le. refl) ∙ ap (λ (l : List Packet). l ++ qs) (below_none (table_of_packets qs))

-- ---- the packets of a table rise

pub rises-push : (low : ℕ) (qs : List Packet) (q : Packet) → PacketsRise low qs → low_after low qs ≤ q.0 → q.0 ≤ 131071 → AreStates q.1 → PacketsRise low (qs ++ q ∷ [])
rises-push low [] q h above there states = (above, there, states, tt)
rises-push low (r ∷ qs) q h above there states = (h.0, h.1, h.2, rises-push (r.0 + 1) qs q h.3 above there states)

pub low-push : (low : ℕ) (qs : List Packet) (q : Packet) → low_after low (qs ++ q ∷ []) ≡ q.0 + 1
low-push low [] q = refl
low-push low (r ∷ qs) q = low-push (r.0 + 1) qs q

record IsFront (qs : List Packet) (p : ℕ) : Type 0 where
  pub rises : PacketsRise 0 qs
  pub low : low_after 0 qs ≤ p
  pub few : length qs ≤ p

front_more : (t : Table) (p : ℕ) (qs : List Packet) (b : Bool) → says_some (states_from t (32 * p) 32) ≡ b → p ≤ 131071 → IsTable t → IsFront qs p → IsFront (qs ++ cond b (packet_at t p ∷ []) []) (suc p)
front_more t p qs true some fits is h =
    let low = h.low in
    let few = h.few in
    let states : AreStates (states_from t (32 * p) 32) = record { many = length-states t (32 * p) 32; each = held-states t (32 * p) 32 is; some = some } in
    record {
      rises = rises-push 0 qs (packet_at t p) h.rises h.low fits states;
      low = let e = low-push 0 qs (packet_at t p) in omega arith;
      few = omega (arith, length-append qs (packet_at t p ∷ []));
    }
front_more t p qs false some fits is h =
    let low = h.low in
    let few = h.few in
    subst (λ (l : List Packet). IsFront l (suc p)) (sym (append-nil qs)) (record { rises = h.rises; low = omega arith; few = omega arith })

front_below : (t : Table) (p : ℕ) → p ≤ 131072 → IsTable t → IsFront (packets_below t p) p
front_below t zero fits is = subst (λ (l : List Packet). IsFront l 0) (sym (below_none t)) (record { rises = tt; low = omega arith; few = omega arith })
front_below t (suc p) fits is =
    subst (λ (l : List Packet). IsFront l (suc p)) (sym (below_next t p))
    (front_more t p (packets_below t p) (says_some (states_from t (32 * p) 32)) refl (omega arith) is (front_below t p (omega arith) is))

all_packets : (t : Table) → IsTable t → IsFront (packets_of t) 131072
unfolding packets_of
all_packets t is = front_below t 131072 (omega arith) is

pub few_below : (t : Table) (p : ℕ) → p ≤ 131072 → IsTable t → length (packets_below t p) ≤ p
few_below t p fits is = (front_below t p fits is).few

pub rises-packets_of : (t : Table) → IsTable t → PacketsRise 0 (packets_of t)
rises-packets_of t is = (all_packets t is).rises

pub few_packets : (t : Table) → IsTable t → length (packets_of t) ≤ 131072
few_packets t is = (all_packets t is).few

-- ---- a table is that of its packets

some_entries : (t : Table) (p : ℕ) (b : Bool) → says_some (states_from t (32 * p) 32) ≡ b → flat_map packet_entries (cond b (packet_at t p ∷ []) []) ≡ listed (32 * p) (states_from t (32 * p) 32)
some_entries t p true some = append-nil (packet_entries (packet_at t p))
some_entries t p false some = sym (listed-unsaid (32 * p) (states_from t (32 * p) 32) some)

-- the entries of the packets below a number are those of the blocks below 32 times it
entries_below : (t : Table) (p : ℕ) → flat_map packet_entries (packets_below t p) ≡ listed 0 (states_from t 0 (32 * p))
entries_below t zero =
    let z : 32 * 0 ≡ 0 = omega arith in
    ap (flat_map packet_entries) (below_none t) ∙ sym (ap (listed 0) (ap (states_from t 0) z ∙ states-none t 0))
entries_below t (suc p) =
    let ss = states_from t 0 (32 * p) in
    let z : 32 * suc p ≡ 32 * p + 32 = omega arith in
    let y : 0 + 32 * p ≡ 32 * p = omega arith in
    let x : 0 + length ss ≡ 32 * p = ap (λ (k : ℕ). 0 + k) (length-states t 0 (32 * p)) ∙ y in
    ap (flat_map packet_entries) (below_next t p)
    ∙ flat_map-append packet_entries (packets_below t p) (some_packet (packet_at t p))
    ∙ ap (λ (l : List (ℕ × State)). l ++ flat_map packet_entries (some_packet (packet_at t p))) (entries_below t p)
    ∙ ap (λ (l : List (ℕ × State)). listed 0 ss ++ l) (some_entries t p (says_some (states_from t (32 * p) 32)) refl)
    ∙ ap (λ (k : ℕ). listed 0 ss ++ listed k (states_from t (32 * p) 32)) (sym x)
    ∙ sym (listed-append 0 ss (states_from t (32 * p) 32))
    ∙ ap (λ (k : ℕ). listed 0 (ss ++ states_from t k 32)) (sym y)
    ∙ ap (listed 0) (sym (states-append t 0 (32 * p) 32))
    ∙ ap (λ (k : ℕ). listed 0 (states_from t 0 k)) (sym z)

past_the_last : (q : ℕ) (s : State) → 4194304 ≤ q → IsStateAt q s → s ≡ Unknown
past_the_last q Unknown le h = refl
past_the_last q (Known bytes) le h = let low = h.0 in absurd (omega arith)
past_the_last q Conflict le h = absurd (omega arith)

-- a table is that of the entries of its blocks
same_states : (t : Table) (n : ℕ) → n ≡ 4194304 → IsTable t → table_of_entries (listed 0 (states_from t 0 n)) ≡ t
same_states t n e is =
    let ss = states_from t 0 n in
    let u = table_of_entries (listed 0 ss) in
    let many : length ss ≡ n = length-states t 0 n in
    let plain : listed 0 ss ++ [] ≡ listed 0 ss = append-nil (listed 0 ss) in
    let again : states_from u 0 n ≡ ss =
    ap (λ (l : List (ℕ × State)). states_from (table_of_entries l) 0 n) (sym plain)
    ∙ subst (λ (m : ℕ). states_from (table_of_entries (listed 0 ss ++ [])) 0 m ≡ ss) many (states-listed 0 ss [] (omega arith) (held-states t 0 n is) tt) in
    same_table u t (λ q. ⊎_elim
    (λ lt. let z : 0 + q ≡ q = omega arith in subst (λ (k : ℕ). state_of u k ≡ state_of t k) z (states-tell u t 0 n q lt again))
    (λ le.
    ap (λ (l : List (ℕ × State)). state_of (table_of_entries l) q) (sym plain) ∙ state-past 0 ss [] q (omega arith) ∙ state_of-empty q
    ∙ sym (past_the_last q (state_of t q) (omega arith) (is q)))
    (cases_lt q n))

pub table_of_packets-packets_of : (t : Table) → IsTable t → table_of_packets (packets_of t) ≡ t
unfolding packets_of
table_of_packets-packets_of t is =
    let z : 32 * 131072 ≡ 4194304 = omega arith in
    ap table_of_entries (entries_below t 131072) ∙ same_states t (32 * 131072) z is

-- ---- a front of the packets

below_more : (t : Table) (n k : ℕ) → (later : List Packet) × (packets_below t (k + n) ≡ packets_below t n ++ later)
below_more t n zero = let z : 0 + n ≡ n = omega arith in ([], ap (packets_below t) z ∙ sym (append-nil (packets_below t n)))
below_more t n (suc k) =
    let z : suc k + n ≡ suc (k + n) = omega arith in
    let h = below_more t n k in
    let last = some_packet (packet_at t (k + n)) in
    (h.0 ++ last, ap (packets_below t) z ∙ below_next t (k + n) ∙ ap (λ (l : List Packet). l ++ last) h.1 ∙ append_assoc (packets_below t n) h.0 last)

pub below_front : (t : Table) (n m : ℕ) → n ≤ m → (front : List Packet) → packets_below t n ≡ front → (later : List Packet) × (packets_below t m ≡ front ++ later)
below_front t n m le front is =
    let z : m ≡ (m - n) + n = omega arith in
    let h = below_more t n (m - n) in
    (h.0, ap (packets_below t) z ∙ h.1 ∙ ap (λ (l : List Packet). l ++ h.0) is)
