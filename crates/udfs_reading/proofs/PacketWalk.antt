-- The entries of a table are walked, and its packets are met on the way.
use Rattle.std.proofs.Common.{◌≡◌, ◌≢◌, ℕ, ◌+◌, ◌-◌, ◌*◌, ◌/◌, ◌<◌, ◌≤◌, true, List, [], ◌∷◌, ◌++◌, sym, ap, subst, ◌∙◌, arith}
use Rattle.udfs_lattice.specs.declared.facts.Fact.TheVariants.{Unknown, Known, Conflict}
use Rattle.udfs_lattice.specs.States.{State}
use Rattle.udfs_lattice.specs.Tables.{Table, state_of, entries_of, IsTable}
use Rattle.udfs_lattice.specs.TableLaws.{state_of-empty}
use Rattle.udfs_lattice.specs.Records.{table_of_entries, IsEntry, RisesFrom}
use Rattle.udfs_lattice.proofs.PublicLaws.{entries_make_table, entries_rise}
use Rattle.udfs_reading.specs.PacketFile.{states_from, says_some, packets_below, packets_of}
use Rattle.udfs_reading.proofs.PacketStates.{states-some, state-other, state-here, unknown-below}
use Rattle.udfs_reading.proofs.PacketTables.{packet_at, next_packet, no_more}

-- the packets below `next` were met; what the table says of the blocks after them, the entries that are left say
pub record Walk (t : Table) (left : List (ℕ × State)) (next : ℕ) : Type 0 where
  pub low : ℕ
  pub rises : RisesFrom low left
  pub within : next ≤ 131072
  pub says : (q : ℕ) → 32 * next ≤ q → state_of t q ≡ state_of (table_of_entries left) q

pub walk_none : (t : Table) (left : List (ℕ × State)) → IsTable t → left ≡ entries_of t → Walk t left 0
walk_none t left is e =
    record {
      low = 0;
      rises = subst (RisesFrom 0) (sym e) (entries_rise t is);
      within = omega arith;
      says = λ q le. sym (ap (λ (l : List (ℕ × State)). state_of (table_of_entries l) q) e ∙ ap (λ (u : Table). state_of u q) (entries_make_table t is));
    }

there : (n : ℕ) (s : State) → IsEntry n s → (n ≤ 4194303) × (s ≢ Unknown)
there n Unknown h = absurd h
there n (Known bytes) h = (h.0, λ e. cc)
there n Conflict h = (h, λ e. cc)

-- an entry of a packet that was met
pub walk_same : (t : Table) (left rest : List (ℕ × State)) (e : ℕ × State) (next : ℕ) → left ≡ e ∷ rest → e.0 / 32 < next → Walk t left next → Walk t rest next
walk_same t left rest e next is lt w =
    let rises : RisesFrom w.low (e ∷ rest) = subst (RisesFrom w.low) is w.rises in
    record {
      low = e.0 + 1;
      rises = rises.2;
      within = w.within;
      says = λ q le. w.says q le ∙ ap (λ (l : List (ℕ × State)). state_of (table_of_entries l) q) is ∙ state-other e rest q (λ at. omega arith);
    }

-- the number of an entry's packet is one that there is
pub packet_there : (t : Table) (left rest : List (ℕ × State)) (e : ℕ × State) (next : ℕ) → left ≡ e ∷ rest → Walk t left next → e.0 / 32 ≤ 131071
packet_there t left rest e next is w =
    let rises : RisesFrom w.low (e ∷ rest) = subst (RisesFrom w.low) is w.rises in
    let low = (there e.0 e.1 rises.1).0 in omega arith

-- an entry of the next packet
pub walk_next : (t : Table) (left rest : List (ℕ × State)) (e : ℕ × State) (next : ℕ) → left ≡ e ∷ rest → next ≤ e.0 / 32 → Walk t left next
    → Walk t rest (e.0 / 32 + 1) × (packets_below t (e.0 / 32 + 1) ≡ packets_below t next ++ packet_at t (e.0 / 32) ∷ [])
walk_next t left rest e next is le w =
    let rises : RisesFrom w.low (e ∷ rest) = subst (RisesFrom w.low) is w.rises in
    let here : RisesFrom e.0 (e ∷ rest) = (omega arith, rises.1, rises.2) in
    let at = there e.0 e.1 rises.1 in
    let low = at.0 in
    let p = e.0 / 32 in
    let i = e.0 - 32 * p in
    let place : 32 * p + i ≡ e.0 = omega arith in
    let says : (q : ℕ) → 32 * next ≤ q → state_of t q ≡ state_of (table_of_entries (e ∷ rest)) q = λ q above. w.says q above ∙ ap (λ (l : List (ℕ × State)). state_of (table_of_entries l) q) is in
    let state : state_of t (32 * p + i) ≡ e.1 = ap (state_of t) place ∙ says e.0 (omega arith) ∙ state-here e rest rises.2 in
    let some : says_some (states_from t (32 * p) 32) ≡ true = states-some t (32 * p) 32 i (omega arith) (λ none. at.1 (sym state ∙ none)) in (
      record {
        low = e.0 + 1;
        rises = rises.2;
        within = omega arith;
        says = λ q above. says q (omega arith) ∙ state-other e rest q (λ same. omega arith);
      },
      next_packet t next p le (λ q above below. says q above ∙ unknown-below e.0 (e ∷ rest) q here (omega arith)) some,
    )

-- no entry is left
pub walk_end : (t : Table) (left : List (ℕ × State)) (next : ℕ) → left ≡ [] → Walk t left next → packets_of t ≡ packets_below t next
walk_end t left next none w =
    no_more t next w.within (λ q le. w.says q le ∙ ap (λ (l : List (ℕ × State)). state_of (table_of_entries l) q) none ∙ state_of-empty q)
