-- A packet is written: its masks from the last block down, its blocks from the first on.
use Rattle.std.proofs.Common.{◌≡◌, ℕ, zero, suc, ◌+◌, ◌-◌, ◌*◌, ◌^◌, ◌<◌, ◌≤◌, Bool, cond, List, [], ◌∷◌, ◌++◌, length, sym, ap, subst, ◌∙◌, append-nil, arith, length-append}
use Rattle.std.specs.List.{flat_map}
use Rattle.std.proofs.lemmas.List.Concat.{flat_map-append}
use Rattle.udfs_lattice.specs.States.{State}
use Rattle.udfs_lattice.specs.Tables.{Table, state_of}
use Rattle.udfs_reading.specs.PacketFile.{Packet, mask_of, content, packet_bytes, states_from, packets_below, packets_of, packed_file}
use Rattle.udfs_reading.specs.PacketFile.{packet_magic}
use Rattle.udfs_reading.specs.Format.{number, header}
use Rattle.udfs_reading.specs.Writing.{Passed, FailedPast}
use Rattle.udfs_reading.proofs.PacketMasks.{mask_below, pow_double}
use Rattle.udfs_reading.proofs.PacketStates.{states-next, states-none, length-states, states-append}
use Rattle.udfs_reading.proofs.PacketTables.{packet_at, below_front}
use Rattle.udfs_reading.proofs.WritingLemmas.{passed_then, failed_then, failed_more}
use Rattle.udfs_reading.specs.Device.{Stream}

-- ---- the masks

wider : (j m k : ℕ) → k < 2 ^ m → k < 2 ^ (j + m)
wider zero m k h = let z : 0 + m ≡ m = omega arith in subst (λ (x : ℕ). k < 2 ^ x) (sym z) h
wider (suc j) m k h =
    let z : suc j + m ≡ suc (j + m) = omega arith in
    let less = wider j m k h in
    let twice = pow_double (j + m) in
    subst (λ (x : ℕ). k < 2 ^ x) (sym z) (omega arith)

-- one more bit fits
pub mask_fits : (test : State → Bool) (t : Table) (n place k : ℕ) → 0 < place → place ≤ 32 → k ≡ mask_of test (states_from t n (32 - place)) → 2 * k + 1 < 2 ^ 32
mask_fits test t n place k some few is =
    let low : k < 2 ^ (32 - place) = subst (λ (m : ℕ). k < 2 ^ m) (length-states t n (32 - place)) (subst (λ (x : ℕ). x < 2 ^ length (states_from t n (32 - place))) (sym is) (mask_below test (states_from t n (32 - place)))) in
    let z : (place - 1) + (32 - place) ≡ 31 = omega arith in
    let below : k < 2 ^ 31 = subst (λ (x : ℕ). k < 2 ^ x) z (wider (place - 1) (32 - place) k low) in
    omega arith

-- the bit of the block before
pub mask_step : (test : State → Bool) (t : Table) (n place k r : ℕ) (s : State) → 0 < place → place ≤ 32 → k ≡ mask_of test (states_from t (n + place) (32 - place)) → s ≡ state_of t (n + (place - 1)) → r ≡ cond (test s) 1 0 + 2 * k
    → r ≡ mask_of test (states_from t (n + (place - 1)) (32 - (place - 1)))
mask_step test t n place k r s some few is at sum =
    let z : 32 - (place - 1) ≡ suc (32 - place) = omega arith in
    let y : (n + (place - 1)) + 1 ≡ n + place = omega arith in
    sum ∙ ap (λ (x : State). cond (test x) 1 0 + 2 * k) at ∙ ap (λ (x : ℕ). cond (test (state_of t (n + (place - 1)))) 1 0 + 2 * x) (is ∙ ap (λ (x : ℕ). mask_of test (states_from t x (32 - place))) (sym y))
    ∙ sym (ap (mask_of test) (ap (states_from t (n + (place - 1))) z ∙ states-next t (n + (place - 1)) (32 - place)))

-- no bit yet
pub mask_none : (test : State → Bool) (t : Table) (n : ℕ) → 0 ≡ mask_of test (states_from t n (32 - 32))
mask_none test t n = sym (ap (mask_of test) (states-none t n))

-- ---- the blocks

pub contents_next : (t : Table) (n p : ℕ) → flat_map content (states_from t n (p + 1)) ≡ flat_map content (states_from t n p) ++ content (state_of t (n + p))
contents_next t n p =
    let one : states_from t (n + p) 1 ≡ state_of t (n + p) ∷ [] = states-next t (n + p) 0 ∙ ap (λ (l : List State). state_of t (n + p) ∷ l) (states-none t (n + p + 1)) in
    ap (flat_map content) (states-append t n p 1 ∙ ap (λ (l : List State). states_from t n p ++ l) one)
    ∙ flat_map-append content (states_from t n p) (state_of t (n + p) ∷ [])
    ∙ ap (λ (l : List ℕ). flat_map content (states_from t n p) ++ l) (append-nil (content (state_of t (n + p))))

pub contents_none : (t : Table) (n : ℕ) → flat_map content (states_from t n 0) ≡ []
contents_none t n = ap (flat_map content) (states-none t n)

-- the sink failed at one of the blocks
pub blocks_fail : {a b c : Stream} {o q : List ℕ} (t : Table) (n p : ℕ) → p < 32 → Passed a b o q (flat_map content (states_from t n p)) → FailedPast b c q (content (state_of t (n + p))) → FailedPast a c o (flat_map content (states_from t n 32))
blocks_fail {a} {b} {c} {o} {q} t n p lt h f =
    let z : (p + 1) + (32 - (p + 1)) ≡ 32 = omega arith in
    let later = states_from t (n + (p + 1)) (32 - (p + 1)) in
    let all : (flat_map content (states_from t n p) ++ content (state_of t (n + p))) ++ flat_map content later ≡ flat_map content (states_from t n 32) =
    ap (λ (l : List ℕ). l ++ flat_map content later) (sym (contents_next t n p)) ∙ sym (flat_map-append content (states_from t n (p + 1)) later)
    ∙ ap (flat_map content) (sym (states-append t n (p + 1) (32 - (p + 1))) ∙ ap (states_from t n) z) in
    subst (FailedPast a c o) all (failed_more (flat_map content later) (failed_then h f))

-- ---- the packets

packet-push : (qs : List Packet) (q : Packet) → flat_map packet_bytes (qs ++ q ∷ []) ≡ flat_map packet_bytes qs ++ packet_bytes q
packet-push qs q = flat_map-append packet_bytes qs (q ∷ []) ∙ ap (λ (l : List ℕ). flat_map packet_bytes qs ++ l) (append-nil (packet_bytes q))

pub packets_passed : {a b c : Stream} {o q r : List ℕ} (t : Table) (next p : ℕ) → packets_below t (p + 1) ≡ packets_below t next ++ packet_at t p ∷ [] → Passed a b o q (flat_map packet_bytes (packets_below t next)) → Passed b c q r (packet_bytes (packet_at t p))
    → Passed a c o r (flat_map packet_bytes (packets_below t (p + 1)))
packets_passed {a} {b} {c} {o} {q} {r} t next p is h f =
    subst (Passed a c o r) (sym (ap (flat_map packet_bytes) is ∙ packet-push (packets_below t next) (packet_at t p))) (passed_then h f)

-- one more packet, counted
pub packets_counted : (t : Table) (next p count : ℕ) → packets_below t (p + 1) ≡ packets_below t next ++ packet_at t p ∷ [] → count ≡ length (packets_below t next) → count + 1 ≡ length (packets_below t (p + 1))
packets_counted t next p count is e = let all = ap length is in omega (arith, length-append (packets_below t next) (packet_at t p ∷ []))

-- the sink failed at the header
pub header_failed : {a b : Stream} {o : List ℕ} (t : Table) (count : ℕ) → count ≡ length (packets_of t) → FailedPast a b o (header packet_magic count) → FailedPast a b o (packed_file (packets_of t))
unfolding packed_file
header_failed {a} {b} {o} t count is h = failed_more (flat_map packet_bytes (packets_of t)) (subst (λ (n : ℕ). FailedPast a b o (header packet_magic n)) is h)

-- all packets were taken
pub packets_written : {a b c : Stream} {o q r : List ℕ} (t : Table) (count next : ℕ) → count ≡ length (packets_of t) → packets_of t ≡ packets_below t next → Passed a b o q (header packet_magic count) → Passed b c q r (flat_map packet_bytes (packets_below t next))
    → Passed a c o r (packed_file (packets_of t))
unfolding packed_file
packets_written {a} {b} {c} {o} {q} {r} t count next is all h f =
    passed_then (subst (λ (n : ℕ). Passed a b o q (header packet_magic n)) is h) (subst (λ (l : List Packet). Passed b c q r (flat_map packet_bytes l)) (sym all) f)

front_of : (t : Table) (next p : ℕ) → packets_below t (p + 1) ≡ packets_below t next ++ packet_at t p ∷ [] → (m : ℕ) → p + 1 ≤ m → (later : List Packet) × (packets_below t m ≡ (packets_below t next ++ packet_at t p ∷ []) ++ later)
front_of t next p is m le = below_front t (p + 1) m le (packets_below t next ++ packet_at t p ∷ []) is

-- the sink failed at a packet
pub packets_failed : {a b c d : Stream} {o q r : List ℕ} (t : Table) (count next p : ℕ) → p ≤ 131071 → count ≡ length (packets_of t) → packets_below t (p + 1) ≡ packets_below t next ++ packet_at t p ∷ []
    → Passed a b o q (header packet_magic count) → Passed b c q r (flat_map packet_bytes (packets_below t next)) → FailedPast c d r (packet_bytes (packet_at t p)) → FailedPast a d o (packed_file (packets_of t))
unfolding packed_file packets_of
packets_failed {a} {b} {c} {d} {o} {q} {r} t count next p there is step h f g =
    let split = front_of t next p step 131072 (omega arith) in
    let done = packets_below t next in
    let all : (flat_map packet_bytes done ++ packet_bytes (packet_at t p)) ++ flat_map packet_bytes split.0 ≡ flat_map packet_bytes (packets_below t 131072) =
    ap (λ (x : List ℕ). x ++ flat_map packet_bytes split.0) (sym (packet-push done (packet_at t p))) ∙ sym (flat_map-append packet_bytes (done ++ packet_at t p ∷ []) split.0) ∙ ap (flat_map packet_bytes) (sym split.1) in
    failed_then (subst (λ (n : ℕ). Passed a b o q (header packet_magic n)) is h) (subst (FailedPast b d q) all (failed_more (flat_map packet_bytes split.0) (failed_then f g)))

-- ---- a number by its value

pub passed_number : {a b : Stream} {p q : List ℕ} (m n : ℕ) → m ≡ n → Passed a b p q (number m) → Passed a b p q (number n)
passed_number {a} {b} {p} {q} m n e h = subst (λ (x : ℕ). Passed a b p q (number x)) e h

pub failed_number : {a b : Stream} {p : List ℕ} (m n : ℕ) → m ≡ n → FailedPast a b p (number m) → FailedPast a b p (number n)
failed_number {a} {b} {p} m n e h = subst (λ (x : ℕ). FailedPast a b p (number x)) e h
