-- The entries of a packet are those of its places, one after the other.
use Rattle.std.specs.Prelude.{◌≡◌, ℕ, zero, suc, ◌+◌, ◌-◌, ◌<◌, ◌≤◌, ◌==◌, Bool, true, false, cond, nat_lt, List, [], ◌∷◌, All, refl}
use Rattle.std.proofs.Common.{sym, ap, ◌∙◌, arith}
use Rattle.std.proofs.lemmas.Bool.{eqb-true, eqb-false, ltb-true, ltb-false}
use Rattle.std.proofs.lemmas.Bool.Decides.{nat_tests}
use Rattle.std.proofs.lemmas.List.Elements.{All-nil, All-cons}
use Rattle.std.specs.Borrow.{Bor}
use Rattle.udfs_lattice.specs.declared.facts.Fact.{Fact}
use Rattle.udfs_lattice.specs.declared.facts.Fact.TheVariants.{Unknown, Known, Conflict}
use Rattle.udfs_lattice.specs.States.{State, fact_now, join_of, join_of-unknown}
use Rattle.udfs_lattice.specs.Tables.{Table, state_of, entries_of, IsTable, IsStateAt}
use Rattle.udfs_lattice.specs.TableLaws.{same_table, state_of-empty}
use Rattle.udfs_lattice.specs.Records.{table_of_entries, RisesFrom}
use Rattle.udfs_lattice.specs.Packets.{IsPlaceState, IsPacketTable, listed_at, entries_from, entries_left}
use Rattle.udfs_lattice.proofs.EntryLaws.{state_of-cons, entries_of-rising}

-- ---- the first of the places that are left
left_step : (t : Table) (i m : ℕ) → m ≡ suc (32 - (i + 1)) → entries_from t i m ≡ listed_at i (state_of t i) (entries_left t (i + 1))
unfolding entries_from
left_step t i m e = ap (entries_from t i) e

pub entries_left-step : (t : Table) (i : ℕ) → i < 32 → entries_left t i ≡ listed_at i (state_of t i) (entries_left t (i + 1))
entries_left-step t i h = left_step t i (32 - i) (omega arith)

none_left : (t : Table) (i m : ℕ) → m ≡ 0 → entries_from t i m ≡ []
unfolding entries_from
none_left t i m e = ap (entries_from t i) e

pub entries_left-done : (t : Table) (i : ℕ) → 32 ≤ i → entries_left t i ≡ []
entries_left-done t i h = none_left t i (32 - i) (omega arith)

some_fact : (i : ℕ) (f : Fact (Bor (List ℕ))) (rest : List (ℕ × State)) → (f ≡ Unknown → ⊥) → listed_at i (fact_now f) rest ≡ (i, fact_now f) ∷ rest
some_fact i Unknown rest h = absurd (h refl)
some_fact i (Known x) rest h = refl
some_fact i Conflict rest h = refl

-- a place that is not unknown, and none before it
pub first_left : (t : Table) (i : ℕ) (f : Fact (Bor (List ℕ))) (all : List (ℕ × State)) → i < 32 → fact_now f ≡ state_of t i → (f ≡ Unknown → ⊥) → all ≡ entries_left t i → all ≡ (i, fact_now f) ∷ entries_left t (i + 1)
first_left t i f all h is some so_far =
    so_far ∙ entries_left-step t i h ∙ ap (λ s. listed_at i s (entries_left t (i + 1))) (sym is)
    ∙ some_fact i f (entries_left t (i + 1)) some

-- a place that is unknown
pub none_here : (t : Table) (i : ℕ) (all : List (ℕ × State)) → i < 32 → Unknown ≡ state_of t i → all ≡ entries_left t i → all ≡ entries_left t (i + 1)
none_here t i all h is so_far =
    so_far ∙ entries_left-step t i h ∙ ap (λ s. listed_at i s (entries_left t (i + 1))) (sym is)

-- ---- they rise, and end below the last place
pub rises_lower : (low high : ℕ) (es : List (ℕ × State)) → low ≤ high → RisesFrom high es → RisesFrom low es
rises_lower low high [] le h = tt
rises_lower low high (e ∷ es) le h = let first = h.0 in (omega arith, h.1, h.2)

rises_listed : (i : ℕ) (s : State) (rest : List (ℕ × State)) → IsStateAt i s → RisesFrom (i + 1) rest → RisesFrom i (listed_at i s rest)
rises_listed i Unknown rest fits h = rises_lower i (i + 1) rest (omega arith) h
rises_listed i (Known bytes) rest fits h = (omega arith, fits, h)
rises_listed i Conflict rest fits h = (omega arith, fits, h)

pub rises-entries_from : (t : Table) (i m : ℕ) → IsTable t → RisesFrom i (entries_from t i m)
unfolding entries_from
rises-entries_from t i zero h = tt
rises-entries_from t i (suc m) h = rises_listed i (state_of t i) (entries_from t (i + 1) m) (h i) (rises-entries_from t (i + 1) m h)

listed_below : (i : ℕ) (s : State) (rest : List (ℕ × State)) → i < 32 → All (λ (e : ℕ × State). e.0 < 32) rest → All (λ (e : ℕ × State). e.0 < 32) (listed_at i s rest)
listed_below i Unknown rest low h = h
listed_below i (Known bytes) rest low h = All-cons (λ (e : ℕ × State). e.0 < 32) (i, Known bytes) rest low h
listed_below i Conflict rest low h = All-cons (λ (e : ℕ × State). e.0 < 32) (i, Conflict) rest low h

pub below-entries_from : (t : Table) (i m : ℕ) → i + m ≤ 32 → All (λ (e : ℕ × State). e.0 < 32) (entries_from t i m)
unfolding entries_from
below-entries_from t i zero h = All-nil (λ (e : ℕ × State). e.0 < 32)
below-entries_from t i (suc m) h = listed_below i (state_of t i) (entries_from t (i + 1) m) (omega arith) (below-entries_from t (i + 1) m (omega arith))

-- ---- their table
either_one : (b : Bool) (s : State) → cond b s s ≡ s
either_one true s = refl
either_one false s = refl

state_of-listed : (i : ℕ) (s : State) (rest : List (ℕ × State)) (q : ℕ) → state_of (table_of_entries (listed_at i s rest)) q ≡ join_of (cond (q == i) s Unknown) (state_of (table_of_entries rest) q)
state_of-listed i Unknown rest q = ap (λ x. join_of x (state_of (table_of_entries rest) q)) (sym (either_one (q == i) Unknown))
state_of-listed i (Known bytes) rest q = state_of-cons (i, Known bytes) rest q
state_of-listed i Conflict rest q = state_of-cons (i, Conflict) rest q

from_step : (t : Table) (i q : ℕ) (b c d : Bool) → (q == i) ≡ b → nat_lt q (i + 1) ≡ c → nat_lt q i ≡ d → join_of (cond b (state_of t i) Unknown) (cond c Unknown (state_of t q)) ≡ cond d Unknown (state_of t q)
from_step t i q true c true e f g = absurd (omega (arith, eqb-true q i e, ltb-true q i g))
from_step t i q true true false e f g = join_of-unknown (state_of t i) ∙ ap (state_of t) (sym (eqb-true q i e))
from_step t i q true false false e f g = absurd (omega (arith, eqb-true q i e, ltb-false q (i + 1) f))
from_step t i q false true true e f g = refl
from_step t i q false false false e f g = refl
from_step t i q false true false e f g = absurd (eqb-false q i e (omega (arith, ltb-true q (i + 1) f, ltb-false q i g)))
from_step t i q false false true e f g = absurd (omega (arith, ltb-false q (i + 1) f, ltb-true q i g))

ends_at : (s : State) (b : Bool) → s ≡ Unknown → Unknown ≡ cond b Unknown s
ends_at s true h = refl
ends_at s false h = sym h

ends_low : (t : Table) (i q : ℕ) (b : Bool) → nat_lt q i ≡ b → ((k : ℕ) → i ≤ k → state_of t k ≡ Unknown) → Unknown ≡ cond b Unknown (state_of t q)
ends_low t i q true is h = refl
ends_low t i q false is h = sym (h q (omega (arith, ltb-false q i is)))

-- where the table has nothing after these places
state_of-entries_from : (t : Table) (i m q : ℕ) → ((k : ℕ) → i + m ≤ k → state_of t k ≡ Unknown) → state_of (table_of_entries (entries_from t i m)) q ≡ cond (nat_lt q i) Unknown (state_of t q)
unfolding entries_from
state_of-entries_from t i zero q h = state_of-empty q ∙ ends_low t i q (nat_lt q i) refl (λ k le. h k (omega arith))
state_of-entries_from t i (suc m) q h =
    state_of-listed i (state_of t i) (entries_from t (i + 1) m) q
    ∙ ap (join_of (cond (q == i) (state_of t i) Unknown)) (state_of-entries_from t (i + 1) m q (λ k le. h k (omega arith)))
    ∙ from_step t i q (q == i) (nat_lt q (i + 1)) (nat_lt q i) refl refl refl

lt_zero : (q : ℕ) → nat_lt q 0 ≡ false
lt_zero q = grind (arith, nat_tests)

beyond_state : (i : ℕ) (s : State) → IsPlaceState i s → 32 ≤ i → s ≡ Unknown
beyond_state i Unknown h le = refl
beyond_state i (Known bytes) h le = absurd (omega arith)
beyond_state i Conflict h le = absurd (omega arith)

table_state : (i : ℕ) (s : State) → IsPlaceState i s → IsStateAt i s
table_state i Unknown h = tt
table_state i (Known bytes) h = (omega arith, h.1)
table_state i Conflict h = omega arith

pub IsTable-packet : (t : Table) → IsPacketTable t → IsTable t
IsTable-packet t h n = table_state n (state_of t n) (h n)

pub table_of_entries-packet : (t : Table) → IsPacketTable t → table_of_entries (entries_left t 0) ≡ t
table_of_entries-packet t h = same_table (table_of_entries (entries_left t 0)) t (λ q.
    state_of-entries_from t 0 32 q (λ k le. beyond_state k (state_of t k) (h k) le)
    ∙ ap (λ b. cond b Unknown (state_of t q)) (lt_zero q))

-- the entries of a packet are those from place 0 on
pub entries_of-packet : (t : Table) → IsPacketTable t → entries_left t 0 ≡ entries_of t
entries_of-packet t h =
    sym (entries_of-rising 0 (entries_left t 0) (rises-entries_from t 0 32 (IsTable-packet t h)))
    ∙ ap entries_of (table_of_entries-packet t h)

pub places-packet : (t : Table) → All (λ (e : ℕ × State). e.0 < 32) (entries_left t 0)
places-packet t = below-entries_from t 0 32 (omega arith)
