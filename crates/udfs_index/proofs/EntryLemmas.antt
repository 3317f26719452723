-- The entries of a table, block by block.
use Rattle.std.proofs.Common.{◌≡◌, ℕ, zero, suc, ◌+◌, ◌-◌, ◌<◌, ◌≤◌, Bool, false, cond, List, [], ◌∷◌, ◌++◌, length, refl, sym, ap, subst, ◌∙◌, append_assoc, append-nil, arith, length-append, ⊎_elim}
use Rattle.std.specs.List.{flat_map, count_by}
use Rattle.std.proofs.lemmas.List.Sums.{sum_by-append, sum_by-cons}
use Rattle.std.proofs.lemmas.Bool.{cases_lt}
use Rattle.std.proofs.lemmas.List.Concat.{flat_map-append}
use Rattle.udfs_lattice.specs.declared.facts.Fact.TheVariants.{Unknown, Known, Conflict}
use Rattle.udfs_lattice.specs.States.{State}
use Rattle.udfs_lattice.specs.Tables.{Table, state_of, entries_of, IsStateAt, IsTable}
use Rattle.udfs_lattice.specs.TableLaws.{same_table, state_of-empty}
use Rattle.udfs_lattice.specs.Records.{table_of_entries, RisesFrom}
use Rattle.udfs_lattice.proofs.PublicLaws.{rising_are_entries}
use Rattle.udfs_reading.specs.PacketFile.{states_from}
use Rattle.udfs_reading.specs.PacketReading.{entry_at, listed}
use Rattle.udfs_reading.specs.TableFile.{entry_bytes, file_of, table_header}
use Rattle.udfs_index.specs.declared.packet.Packet.{Packet}
use Rattle.udfs_index.specs.Copying.{IsShown}
use Rattle.udfs_index.specs.Places.{state_by}
use Rattle.udfs_index.specs.Slots.{slot_at}
use Rattle.udfs_reading.proofs.PacketStates.{states-next, states-none, length-states, held-states, states-tell, states-append, listed-append, rises-listed, state-past, states-listed}

-- the entries of the blocks below n
unfoldable pub entries_below : Table → ℕ → List (ℕ × State)
entries_below t n = listed 0 (states_from t 0 n)

pub entries-none : (t : Table) → entries_below t 0 ≡ []
unfolding entries_below
entries-none t = ap (listed 0) (states-none t 0)

pub entries-more : (t : Table) (n : ℕ) → entries_below t (n + 1) ≡ entries_below t n ++ entry_at n (state_of t n)
unfolding entries_below
entries-more t n =
    let ss = states_from t 0 n in
    let y : 0 + n ≡ n = omega arith in
    let x : 0 + length ss ≡ n = ap (λ (k : ℕ). 0 + k) (length-states t 0 n) ∙ y in
    let one : states_from t (0 + n) 1 ≡ state_of t n ∷ [] = ap (λ (k : ℕ). states_from t k 1) y ∙ states-next t n 0 ∙ ap (λ (l : List State). state_of t n ∷ l) (states-none t (n + 1)) in
    ap (listed 0) (states-append t 0 n 1 ∙ ap (λ (l : List State). ss ++ l) one)
    ∙ listed-append 0 ss (state_of t n ∷ [])
    ∙ ap (λ (k : ℕ). listed 0 ss ++ listed k (state_of t n ∷ [])) x
    ∙ ap (λ (l : List (ℕ × State)). listed 0 ss ++ l) (append-nil (entry_at n (state_of t n)))

past_the_last : (q : ℕ) (s : State) → 4194304 ≤ q → IsStateAt q s → s ≡ Unknown
past_the_last q Unknown le h = refl
past_the_last q (Known bytes) le h = let low = h.0 in absurd (omega (arith, le, low))
past_the_last q Conflict le h = absurd (omega (arith, le, h))

-- the entries of all blocks are those of the table
pub all_entries : (t : Table) (n : ℕ) → n ≡ 4194304 → IsTable t → entries_below t n ≡ entries_of t
unfolding entries_below
all_entries t n e is =
    let ss = states_from t 0 n in
    let es = listed 0 ss in
    let u = table_of_entries es in
    let many : length ss ≡ n = length-states t 0 n in
    let plain : es ++ [] ≡ es = append-nil es in
    let held = held-states t 0 n is in
    let fits : 0 + length ss ≤ 4194304 = omega (arith, many, e) in
    let rises : RisesFrom 0 es = subst (RisesFrom 0) plain (rises-listed 0 ss [] fits held tt) in
    let again : states_from u 0 n ≡ ss =
    ap (λ (l : List (ℕ × State)). states_from (table_of_entries l) 0 n) (sym plain)
    ∙ subst (λ (m : ℕ). states_from (table_of_entries (es ++ [])) 0 m ≡ ss) many (states-listed 0 ss [] fits held tt) in
    let same : u ≡ t =
    same_table u t (λ q. ⊎_elim
    (λ lt. let z : 0 + q ≡ q = omega arith in subst (λ (k : ℕ). state_of u k ≡ state_of t k) z (states-tell u t 0 n q lt again))
    (λ le.
    ap (λ (l : List (ℕ × State)). state_of (table_of_entries l) q) (sym plain) ∙ state-past 0 ss [] q (omega (arith, le, many)) ∙ state_of-empty q
    ∙ sym (past_the_last q (state_of t q) (omega (arith, le, e)) (is q)))
    (cases_lt q n)) in
    sym (rising_are_entries es rises) ∙ ap entries_of same

-- where nothing is said of the blocks from one on, there are no entries of them
more_none : (t : Table) (n : ℕ) → state_of t n ≡ Unknown → entries_below t (n + 1) ≡ entries_below t n
more_none t n none = entries-more t n ∙ ap (λ (s : State). entries_below t n ++ entry_at n s) none ∙ append-nil (entries_below t n)

none_beyond : (t : Table) (n k : ℕ) → ((q : ℕ) → n ≤ q → state_of t q ≡ Unknown) → entries_below t (k + n) ≡ entries_below t n
none_beyond t n zero none = let z : 0 + n ≡ n = omega arith in ap (entries_below t) z
none_beyond t n (suc k) none =
    let z : suc k + n ≡ (k + n) + 1 = omega arith in
    ap (entries_below t) z ∙ more_none t (k + n) (none (k + n) (omega arith)) ∙ none_beyond t n k none

pub said_entries : (wholes : List (List ℕ)) (packets : List Packet) (t : Table) (end : ℕ) → IsTable t → IsShown wholes packets t → end ≤ 4194304 → ((q : ℕ) → end ≤ q → q < 4194304 → slot_at packets q ≡ Unknown) → entries_below t end ≡ entries_of t
said_entries wholes packets t end is shown most rest =
    let z : (4194304 - end) + end ≡ 4194304 = omega (arith, most) in
    sym (none_beyond t end (4194304 - end) (λ q low. ⊎_elim
    (λ lt. shown q ∙ ap (state_by wholes) (rest q low lt))
    (λ le. past_the_last q (state_of t q) le (is q))
    (cases_lt q 4194304)))
    ∙ all_entries t ((4194304 - end) + end) z is

-- ---- their bytes

pub spelled_more : (t : Table) (n : ℕ) → flat_map entry_bytes (entries_below t (n + 1)) ≡ flat_map entry_bytes (entries_below t n) ++ flat_map entry_bytes (entry_at n (state_of t n))
spelled_more t n = ap (flat_map entry_bytes) (entries-more t n) ∙ flat_map-append entry_bytes (entries_below t n) (entry_at n (state_of t n))

entries_front : (t : Table) (n k : ℕ) → (later : List (ℕ × State)) × (entries_below t (k + n) ≡ entries_below t n ++ later)
entries_front t n zero = let z : 0 + n ≡ n = omega arith in ([], ap (entries_below t) z ∙ sym (append-nil (entries_below t n)))
entries_front t n (suc k) =
    let z : suc k + n ≡ (k + n) + 1 = omega arith in
    let h = entries_front t n k in
    let last = entry_at (k + n) (state_of t (k + n)) in
    (h.0 ++ last, ap (entries_below t) z ∙ entries-more t (k + n) ∙ ap (λ (l : List (ℕ × State)). l ++ last) h.1 ∙ append_assoc (entries_below t n) h.0 last)

-- an entry, and what stands before and behind it
pub spelled_cut : (t : Table) (n end : ℕ) → n < end → (rest : List ℕ) × ((flat_map entry_bytes (entries_below t n) ++ flat_map entry_bytes (entry_at n (state_of t n))) ++ rest ≡ flat_map entry_bytes (entries_below t end))
spelled_cut t n end lt =
    let front = entries_front t (n + 1) (end - (n + 1)) in
    let z : (end - (n + 1)) + (n + 1) ≡ end = omega (arith, lt) in (
      flat_map entry_bytes front.0,
      ap (λ (l : List ℕ). l ++ flat_map entry_bytes front.0) (sym (spelled_more t n)) ∙ sym (flat_map-append entry_bytes (entries_below t (n + 1)) front.0) ∙ ap (flat_map entry_bytes) (sym front.1 ∙ ap (entries_below t) z),
    )

-- the file of all entries
pub spelled_whole : (t : Table) (count end : ℕ) → entries_below t end ≡ entries_of t → count ≡ length (entries_of t) → table_header count ++ flat_map entry_bytes (entries_below t end) ≡ file_of (entries_of t)
unfolding file_of
spelled_whole t count end all many =
    ap (λ (n : ℕ). table_header n ++ flat_map entry_bytes (entries_below t end)) many
    ∙ ap (λ (l : List (ℕ × State)). table_header (length (entries_of t)) ++ flat_map entry_bytes l) all

-- ---- counted

pub counted_none : (t : Table) → 0 ≡ length (entries_below t 0)
counted_none t = sym (ap length (entries-none t))

pub counted_more : (t : Table) (n count : ℕ) (s : State) → state_of t n ≡ s → count ≡ length (entries_below t n) → count + length (entry_at n s) ≡ length (entries_below t (n + 1))
counted_more t n count s is was =
    ap (λ (k : ℕ). k + length (entry_at n s)) was ∙ sym (length-append (entries_below t n) (entry_at n s)) ∙ ap (λ (x : State). length (entries_below t n ++ entry_at n x)) (sym is) ∙ sym (ap length (entries-more t n))

pub counted_step : (t : Table) (n count k : ℕ) (s : State) → state_of t n ≡ s → k ≡ length (entry_at n s) → count ≡ length (entries_below t n) → count + k ≡ length (entries_below t (n + 1))
counted_step t n count k s is one was = ap (λ (x : ℕ). count + x) one ∙ counted_more t n count s is was

-- ---- counted by their states

-- how many of the entries of the blocks below n have such a state
pub tallied_none : (test : State → Bool) (t : Table) → 0 ≡ count_by (λ (e : ℕ × State). test e.1) (entries_below t 0)
tallied_none test t = sym (ap (count_by (λ (e : ℕ × State). test e.1)) (entries-none t))

tallied_one : (test : State → Bool) (n : ℕ) (s : State) → test Unknown ≡ false → count_by (λ (e : ℕ × State). test e.1) (entry_at n s) ≡ cond (test s) 1 0
tallied_one test n Unknown none = sym (ap (λ (b : Bool). cond b 1 0) none)
tallied_one test n (Known bytes) none = let z : cond (test (Known bytes)) 1 0 + 0 ≡ cond (test (Known bytes)) 1 0 = omega arith in sum_by-cons (λ (e : ℕ × State). cond (test e.1) 1 0) (n, Known bytes) [] ∙ z
tallied_one test n Conflict none = let z : cond (test Conflict) 1 0 + 0 ≡ cond (test Conflict) 1 0 = omega arith in sum_by-cons (λ (e : ℕ × State). cond (test e.1) 1 0) (n, Conflict) [] ∙ z

pub tallied_more : (test : State → Bool) (t : Table) (n count : ℕ) (s : State) (b : Bool) → test Unknown ≡ false → state_of t n ≡ s → test s ≡ b → count ≡ count_by (λ (e : ℕ × State). test e.1) (entries_below t n) → count + cond b 1 0 ≡ count_by (λ (e : ℕ × State). test e.1) (entries_below t (n + 1))
tallied_more test t n count s b none is so was =
    let f : (ℕ × State) → ℕ = λ e. cond (test e.1) 1 0 in
    ap (λ (k : ℕ). k + cond b 1 0) was
    ∙ ap (λ (x : Bool). count_by (λ (e : ℕ × State). test e.1) (entries_below t n) + cond x 1 0) (sym so)
    ∙ ap (λ (k : ℕ). count_by (λ (e : ℕ × State). test e.1) (entries_below t n) + k) (sym (tallied_one test n s none))
    ∙ sym (sum_by-append f (entries_below t n) (entry_at n s))
    ∙ ap (λ (x : State). count_by (λ (e : ℕ × State). test e.1) (entries_below t n ++ entry_at n x)) (sym is)
    ∙ sym (ap (count_by (λ (e : ℕ × State). test e.1)) (entries-more t n))

pub tallied_all : (test : State → Bool) (t : Table) (n : ℕ) → entries_below t n ≡ entries_of t → count_by (λ (e : ℕ × State). test e.1) (entries_below t n) ≡ count_by (λ (e : ℕ × State). test e.1) (entries_of t)
tallied_all test t n all = ap (count_by (λ (e : ℕ × State). test e.1)) all

-- ---- one entry

pub known_spelled : (n : ℕ) (bytes there : List ℕ) → there ≡ bytes → entry_bytes (n, Known there) ≡ flat_map entry_bytes (entry_at n (Known bytes))
known_spelled n bytes there e = ap (λ (l : List ℕ). entry_bytes (n, Known l)) e ∙ sym (append-nil (entry_bytes (n, Known bytes)))
