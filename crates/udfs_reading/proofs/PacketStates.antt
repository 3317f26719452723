-- The states of a table's blocks from one block on, and the entries that they make.
use Rattle.std.proofs.Common.{◌≡◌, ◌≢◌, ℕ, zero, suc, ◌+◌, ◌<◌, ◌≤◌, true, false, cond, List, [], ◌∷◌, ◌++◌, length, get_or, drop, refl, sym, ap, subst, ◌∙◌, append_assoc, arith}
use Rattle.std.specs.List.{AllByRecursion}
use Rattle.std.proofs.lemmas.Bool.{ne_eqb, eq-eqb}
use Rattle.udfs_lattice.specs.declared.facts.Fact.TheVariants.{Unknown, Known, Conflict}
use Rattle.udfs_lattice.specs.States.{State, join_of, join_of-unknown}
use Rattle.udfs_lattice.specs.Tables.{Table, state_of, IsStateAt, IsTable}
use Rattle.udfs_lattice.specs.TableLaws.{state_of-empty}
use Rattle.udfs_lattice.specs.Records.{table_of_entries, RisesFrom}
use Rattle.udfs_lattice.proofs.PublicLaws.{entry_before}
use Rattle.udfs_reading.specs.PacketFile.{states_from, says_some}
use Rattle.udfs_reading.specs.PacketReading.{IsHeld, entry_at, listed}

-- ---- the states from one block on

pub states-next : (t : Table) (n m : ℕ) → states_from t n (suc m) ≡ state_of t n ∷ states_from t (n + 1) m
unfolding states_from
states-next t n m = refl

pub states-none : (t : Table) (n : ℕ) → states_from t n 0 ≡ []
unfolding states_from
states-none t n = refl

pub length-states : (t : Table) (n m : ℕ) → length (states_from t n m) ≡ m
length-states t n zero = ap length (states-none t n)
length-states t n (suc m) = ap length (states-next t n m) ∙ ap suc (length-states t (n + 1) m)

held_at : (n : ℕ) (s : State) → IsStateAt n s → IsHeld s
held_at n Unknown h = tt
held_at n (Known bytes) h = h.1
held_at n Conflict h = tt

pub held-states : (t : Table) (n m : ℕ) → IsTable t → AllByRecursion IsHeld (states_from t n m)
held-states t n zero h = subst (AllByRecursion IsHeld) (sym (states-none t n)) tt
held-states t n (suc m) h = subst (AllByRecursion IsHeld) (sym (states-next t n m)) (held_at n (state_of t n) (h n), held-states t (n + 1) m h)

-- tables that say the same from block n on
pub states-same : (t u : Table) (n m : ℕ) → ((q : ℕ) → n ≤ q → state_of t q ≡ state_of u q) → states_from t n m ≡ states_from u n m
states-same t u n zero h = states-none t n ∙ sym (states-none u n)
states-same t u n (suc m) h =
    states-next t n m
    ∙ ap (λ (s : State). s ∷ states_from t (n + 1) m) (h n (omega arith))
    ∙ ap (λ (l : List State). state_of u n ∷ l) (states-same t u (n + 1) m (λ q le. h q (omega arith)))
    ∙ sym (states-next u n m)

first_of : (s r : State) (ss rs : List State) → s ∷ ss ≡ r ∷ rs → (s ≡ r) × (ss ≡ rs)
first_of s r ss rs e = (ap (λ l. get_or l 0 s) e, ap (λ (l : List State). drop 1 l) e)

-- and the other way round
pub states-tell : (t u : Table) (n m i : ℕ) → i < m → states_from t n m ≡ states_from u n m → state_of t (n + i) ≡ state_of u (n + i)
states-tell t u n zero i lt e = absurd (omega arith)
states-tell t u n (suc m) zero lt e =
    let parts = first_of _ _ _ _ (sym (states-next t n m) ∙ e ∙ states-next u n m) in
    let z : n + 0 ≡ n = omega arith in
    ap (state_of t) z ∙ parts.0 ∙ sym (ap (state_of u) z)
states-tell t u n (suc m) (suc i) lt e =
    let parts = first_of _ _ _ _ (sym (states-next t n m) ∙ e ∙ states-next u n m) in
    let z : n + suc i ≡ (n + 1) + i = omega arith in
    ap (state_of t) z ∙ states-tell t u (n + 1) m i (omega arith) parts.1 ∙ sym (ap (state_of u) z)

-- ---- whether one of them is not Unknown

said_first : (s : State) (ss : List State) → s ≢ Unknown → says_some (s ∷ ss) ≡ true
said_first Unknown ss h = absurd (h refl)
said_first (Known bytes) ss h = refl
said_first Conflict ss h = refl

said_rest : (s : State) (ss : List State) → says_some ss ≡ true → says_some (s ∷ ss) ≡ true
said_rest Unknown ss h = h
said_rest (Known bytes) ss h = refl
said_rest Conflict ss h = refl

pub states-some : (t : Table) (n m i : ℕ) → i < m → state_of t (n + i) ≢ Unknown → says_some (states_from t n m) ≡ true
states-some t n zero i lt h = absurd (omega arith)
states-some t n (suc m) zero lt h =
    let z : n + 0 ≡ n = omega arith in
    ap says_some (states-next t n m) ∙ said_first (state_of t n) (states_from t (n + 1) m) (λ e. h (ap (state_of t) z ∙ e))
states-some t n (suc m) (suc i) lt h =
    let z : n + suc i ≡ (n + 1) + i = omega arith in
    ap says_some (states-next t n m) ∙ said_rest (state_of t n) (states_from t (n + 1) m) (states-some t (n + 1) m i (omega arith) (λ e. h (ap (state_of t) z ∙ e)))

said_unknown : (s : State) (ss : List State) → s ≡ Unknown → says_some (s ∷ ss) ≡ says_some ss
said_unknown s ss e = ap (λ (x : State). says_some (x ∷ ss)) e

pub states-unknown : (t : Table) (n m : ℕ) → ((q : ℕ) → n ≤ q → q < n + m → state_of t q ≡ Unknown) → says_some (states_from t n m) ≡ false
states-unknown t n zero h = ap says_some (states-none t n)
states-unknown t n (suc m) h =
    ap says_some (states-next t n m) ∙ said_unknown (state_of t n) (states_from t (n + 1) m) (h n (omega arith) (omega arith))
    ∙ states-unknown t (n + 1) m (λ q le lt. h q (omega arith) (omega arith))

-- ---- the entries of states

pub listed-unsaid : (n : ℕ) (ss : List State) → says_some ss ≡ false → listed n ss ≡ []
listed-unsaid n [] h = refl
listed-unsaid n (Unknown ∷ ss) h = listed-unsaid (n + 1) ss h
listed-unsaid n (Known bytes ∷ ss) h = absurd cc
listed-unsaid n (Conflict ∷ ss) h = absurd cc

pub listed-append : (n : ℕ) (ss rs : List State) → listed n (ss ++ rs) ≡ listed n ss ++ listed (n + length ss) rs
listed-append n [] rs = let z : n + 0 ≡ n = omega arith in ap (λ (k : ℕ). listed k rs) (sym z)
listed-append n (s ∷ ss) rs =
    let z : (n + 1) + length ss ≡ n + suc (length ss) = omega arith in
    let rest = listed-append (n + 1) ss rs ∙ ap (λ (k : ℕ). listed (n + 1) ss ++ listed k rs) z in
    ap (λ (l : List (ℕ × State)). entry_at n s ++ l) rest ∙ sym (append_assoc (entry_at n s) (listed (n + 1) ss) (listed (n + suc (length ss)) rs))

pub states-append : (t : Table) (n m k : ℕ) → states_from t n (m + k) ≡ states_from t n m ++ states_from t (n + m) k
states-append t n zero k =
    let z : 0 + k ≡ k = omega arith in let y : n + 0 ≡ n = omega arith in
    ap (states_from t n) z ∙ ap (λ (a : ℕ). states_from t a k) (sym y) ∙ ap (λ (l : List State). l ++ states_from t (n + 0) k) (sym (states-none t n))
states-append t n (suc m) k =
    let z : suc m + k ≡ suc (m + k) = omega arith in let y : (n + 1) + m ≡ n + suc m = omega arith in
    ap (states_from t n) z ∙ states-next t n (m + k)
    ∙ ap (λ (l : List State). state_of t n ∷ l) (states-append t (n + 1) m k ∙ ap (λ (a : ℕ). states_from t (n + 1) m ++ states_from t a k) y)
    ∙ ap (λ (l : List State). l ++ states_from t (n + suc m) k) (sym (states-next t n m))

pub rises-weaken : (low high : ℕ) (es : List (ℕ × State)) → low ≤ high → RisesFrom high es → RisesFrom low es
rises-weaken low high [] le h = tt
rises-weaken low high (e ∷ es) le h = (let first = h.0 in omega arith, h.1, h.2)

-- the entries of states rise
pub rises-listed : (n : ℕ) (ss : List State) (rest : List (ℕ × State)) → n + length ss ≤ 4194304 → AllByRecursion IsHeld ss → RisesFrom (n + length ss) rest → RisesFrom n (listed n ss ++ rest)
rises-listed n [] rest fits held h = rises-weaken n (n + 0) rest (omega arith) h
rises-listed n (Unknown ∷ ss) rest fits held h =
    let z : n + suc (length ss) ≡ (n + 1) + length ss = omega arith in
    rises-weaken n (n + 1) _ (omega arith) (rises-listed (n + 1) ss rest (omega arith) held.1 (subst (λ (k : ℕ). RisesFrom k rest) z h))
rises-listed n (Known bytes ∷ ss) rest fits held h =
    let z : n + suc (length ss) ≡ (n + 1) + length ss = omega arith in
    (omega arith, (omega arith, held.0), rises-listed (n + 1) ss rest (omega arith) held.1 (subst (λ (k : ℕ). RisesFrom k rest) z h))
rises-listed n (Conflict ∷ ss) rest fits held h =
    let z : n + suc (length ss) ≡ (n + 1) + length ss = omega arith in
    (omega arith, omega arith, rises-listed (n + 1) ss rest (omega arith) held.1 (subst (λ (k : ℕ). RisesFrom k rest) z h))

-- ---- the table of rising entries

pub state-other : (e : ℕ × State) (es : List (ℕ × State)) (q : ℕ) → q ≢ e.0 → state_of (table_of_entries (e ∷ es)) q ≡ state_of (table_of_entries es) q
state-other e es q h = entry_before e es q ∙ ap (λ b. join_of (cond b e.1 Unknown) (state_of (table_of_entries es) q)) (ne_eqb q e.0 h)

-- nothing below the first
pub unknown-below : (low : ℕ) (es : List (ℕ × State)) (q : ℕ) → RisesFrom low es → q < low → state_of (table_of_entries es) q ≡ Unknown
unknown-below low [] q h lt = state_of-empty q
unknown-below low (e ∷ es) q h lt =
    let first = h.0 in
    state-other e es q (λ is. omega arith) ∙ unknown-below (e.0 + 1) es q h.2 (omega arith)

pub state-here : (e : ℕ × State) (es : List (ℕ × State)) → RisesFrom (e.0 + 1) es → state_of (table_of_entries (e ∷ es)) e.0 ≡ e.1
state-here e es h =
    entry_before e es e.0
    ∙ ap (λ b. join_of (cond b e.1 Unknown) (state_of (table_of_entries es) e.0)) (eq-eqb e.0 e.0 refl)
    ∙ ap (join_of e.1) (unknown-below (e.0 + 1) es e.0 h (omega arith)) ∙ join_of-unknown e.1

-- what is said past the states of a packet
pub state-past : (n : ℕ) (ss : List State) (rest : List (ℕ × State)) (q : ℕ) → n + length ss ≤ q → state_of (table_of_entries (listed n ss ++ rest)) q ≡ state_of (table_of_entries rest) q
state-past n [] rest q le = refl
state-past n (Unknown ∷ ss) rest q le = state-past (n + 1) ss rest q (omega arith)
state-past n (Known bytes ∷ ss) rest q le = state-other (n, Known bytes) _ q (λ is. omega arith) ∙ state-past (n + 1) ss rest q (omega arith)
state-past n (Conflict ∷ ss) rest q le = state-other (n, Conflict) _ q (λ is. omega arith) ∙ state-past (n + 1) ss rest q (omega arith)

-- a table says of an entry's block what the entry says, and past it what the others say
after_entry : (s : State) (ss : List State) (n : ℕ) (es : List (ℕ × State)) → RisesFrom (n + 1) es → states_from (table_of_entries es) (n + 1) (length ss) ≡ ss → states_from (table_of_entries ((n, s) ∷ es)) n (suc (length ss)) ≡ s ∷ ss
after_entry s ss n es rises e =
    let t = table_of_entries ((n, s) ∷ es) in
    states-next t n (length ss)
    ∙ ap (λ (x : State). x ∷ states_from t (n + 1) (length ss)) (state-here (n, s) es rises)
    ∙ ap (λ (l : List State). s ∷ l) (states-same t (table_of_entries es) (n + 1) (length ss) (λ q le. state-other (n, s) es q (λ is. omega arith)) ∙ e)

-- the states of the table of these states' entries are these states
pub states-listed : (n : ℕ) (ss : List State) (rest : List (ℕ × State)) → n + length ss ≤ 4194304 → AllByRecursion IsHeld ss → RisesFrom (n + length ss) rest → states_from (table_of_entries (listed n ss ++ rest)) n (length ss) ≡ ss
states-listed n [] rest fits held h = states-none _ n
states-listed n (Unknown ∷ ss) rest fits held h =
    let z : n + suc (length ss) ≡ (n + 1) + length ss = omega arith in
    let later = subst (λ (k : ℕ). RisesFrom k rest) z h in
    let es = listed (n + 1) ss ++ rest in
    states-next (table_of_entries es) n (length ss)
    ∙ ap (λ (x : State). x ∷ states_from (table_of_entries es) (n + 1) (length ss)) (unknown-below (n + 1) es n (rises-listed (n + 1) ss rest (omega arith) held.1 later) (omega arith))
    ∙ ap (λ (l : List State). Unknown ∷ l) (states-listed (n + 1) ss rest (omega arith) held.1 later)
states-listed n (Known bytes ∷ ss) rest fits held h =
    let z : n + suc (length ss) ≡ (n + 1) + length ss = omega arith in
    let later = subst (λ (k : ℕ). RisesFrom k rest) z h in
    after_entry (Known bytes) ss n (listed (n + 1) ss ++ rest) (rises-listed (n + 1) ss rest (omega arith) held.1 later) (states-listed (n + 1) ss rest (omega arith) held.1 later)
states-listed n (Conflict ∷ ss) rest fits held h =
    let z : n + suc (length ss) ≡ (n + 1) + length ss = omega arith in
    let later = subst (λ (k : ℕ). RisesFrom k rest) z h in
    after_entry Conflict ss n (listed (n + 1) ss ++ rest) (rises-listed (n + 1) ss rest (omega arith) held.1 later) (states-listed (n + 1) ss rest (omega arith) held.1 later)
