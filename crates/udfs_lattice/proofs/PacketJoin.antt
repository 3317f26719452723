-- A packet that is being joined with another, place by place.
use Rattle.std.specs.Prelude.{◌≡◌, ℕ, ◌+◌, ◌<◌, ◌≤◌, ◌==◌, Bool, true, false, cond, List, [], slice_index_or, bit_or, max}
use Rattle.std.specs.Int.{bit_at}
use Rattle.std.specs.Prelude.{Result, OnErr}
use Rattle.std.proofs.Common.{Ok, Err}
use Rattle.std.proofs.Common.{refl, sym, ap, subst, ◌∙◌, arith, ⊎_elim}
use Rattle.std.proofs.lemmas.Nat.Bits.{bit_at_or}
use Rattle.std.proofs.lemmas.Bool.{eqb-true, eq-eqb, cases_lt}
use Rattle.udfs_lattice.specs.declared.facts.Fact.TheVariants.{Unknown}
use Rattle.udfs_lattice.specs.States.{State, IsBelow, IsBelow-refl, IsBelow-trans}
use Rattle.udfs_lattice.specs.Tables.{Table, state_of, one_entry, join_tables, IsTableBelow}
use Rattle.udfs_lattice.specs.TableLaws.{IsTableBelow-join_tables, IsTableBelow-second, IsTableBelow-antisym, join_tables-least, join_tables-between, state_of-one_entry}
use Rattle.udfs_lattice.specs.Packets.{rank, table_packet, IsPacketTable}
use Rattle.udfs_lattice.proofs.PacketStates.{IsPacketTable-join, IsPacketTable-place, state_of-place, state_of-beyond, says_unknown, zero_bit, clear_bit}

-- the packet lies between the old one and the join, and above the other at each place below i
pub record IsJoinedBelow (old other now : Table) (i : ℕ) : Type 0 where
  pub above_old : IsTableBelow old now
  pub below_join : IsTableBelow now (join_tables old other)
  pub packet : IsPacketTable now
  pub absorbed : (q : ℕ) → q < i → IsBelow (state_of other q) (state_of now q)

pub joined_none : (old other : Table) → IsPacketTable old → IsJoinedBelow old other old 0
joined_none old other packet = record {
  above_old = λ q. IsBelow-refl (state_of old q);
  below_join = IsTableBelow-join_tables old other;
  packet = packet;
  absorbed = λ q h. absurd (omega arith);
}

at_or_below : (q i : ℕ) → q < i + 1 → (q < i → ⊥) → q ≡ i
at_or_below q i h not = omega arith

not_less : (q i : ℕ) → i ≤ q → q < i → ⊥
not_less q i h k = omega arith

-- ---- one place
entry_below_at : (t : Table) (i q : ℕ) (e : Bool) → (q == i) ≡ e → IsBelow (cond e (state_of t i) Unknown) (state_of t q)
entry_below_at t i q true is = subst (λ k. IsBelow (state_of t i) (state_of t k)) (sym (eqb-true q i is)) (IsBelow-refl (state_of t i))
entry_below_at t i q false is = tt

-- the table of one place of another lies below it
entry_below : (t : Table) (i : ℕ) → IsTableBelow (one_entry i (state_of t i)) t
entry_below t i q = subst (λ s. IsBelow s (state_of t q)) (sym (state_of-one_entry i (state_of t i) q)) (entry_below_at t i q (q == i) refl)

below_trans : (t u v : Table) → IsTableBelow t u → IsTableBelow u v → IsTableBelow t v
below_trans t u v h k q = IsBelow-trans (state_of t q) (state_of u q) (state_of v q) (h q) (k q)

-- what is below at one place
absorbed_one : (i : ℕ) (s : State) (u : Table) → IsTableBelow (one_entry i s) u → IsBelow s (state_of u i)
absorbed_one i s u h = subst (λ x. IsBelow x (state_of u i)) (state_of-one_entry i s i ∙ ap (λ b. cond b s Unknown) (eq-eqb i i refl)) (h i)

pub joined_more : (old other now new : Table) (i : ℕ) (s : State) → IsPacketTable other → IsJoinedBelow old other now i → s ≡ state_of other i → new ≡ join_tables now (one_entry i s) → IsJoinedBelow old other new (i + 1)
joined_more old other now new i s packet h place is =
    let step : new ≡ join_tables now (one_entry i (state_of other i)) = is ∙ ap (λ x. join_tables now (one_entry i x)) place in
    let grows : IsTableBelow now new = subst (IsTableBelow now) (sym step) (IsTableBelow-join_tables now (one_entry i (state_of other i))) in
    let has : IsTableBelow (one_entry i (state_of other i)) new = subst (IsTableBelow (one_entry i (state_of other i))) (sym step) (IsTableBelow-second now (one_entry i (state_of other i))) in
    record {
      above_old = below_trans old now new h.above_old grows;
      below_join = subst (λ t. IsTableBelow t (join_tables old other)) (sym step)
          (join_tables-least now (one_entry i (state_of other i)) (join_tables old other) h.below_join
          (below_trans (one_entry i (state_of other i)) other (join_tables old other) (entry_below other i) (IsTableBelow-second old other)));
      packet = subst IsPacketTable (sym step) (IsPacketTable-join now (one_entry i (state_of other i)) h.packet (IsPacketTable-place other i packet));
      absorbed = λ q near. ⊎_elim
          (λ lt. IsBelow-trans (state_of other q) (state_of now q) (state_of new q) (h.absorbed q lt) (grows q))
          (λ ge. subst (λ k. IsBelow (state_of other k) (state_of new k)) (sym (at_or_below q i near (not_less q i ge))) (absorbed_one i (state_of other i) new has))
          (cases_lt q i);
    }

-- a place at which the other knows nothing
pub joined_skip : (old other now : Table) (i : ℕ) → IsJoinedBelow old other now i → state_of other i ≡ Unknown → IsJoinedBelow old other now (i + 1)
joined_skip old other now i h none = record {
  above_old = h.above_old;
  below_join = h.below_join;
  packet = h.packet;
  absorbed = λ q near. ⊎_elim
      (λ lt. h.absorbed q lt)
      (λ ge. subst (λ k. IsBelow (state_of other k) (state_of now k)) (sym (at_or_below q i near (not_less q i ge))) (subst (λ s. IsBelow s (state_of now i)) (sym none) tt))
      (cases_lt q i);
}

both_zero : (x y : ℕ) → max x y ≡ 0 → (x ≡ 0) × (y ≡ 0)
both_zero x y h = (omega arith, omega arith)

-- where no bit of either mask is set
pub unknown_place : (k c : ℕ) (bs : List (List ℕ)) (t : Table) (i : ℕ) → table_packet k c bs ≡ t → i < 32 → (bit_at (bit_or k c) i == 1) ≡ false → state_of t i ≡ Unknown
unknown_place k c bs t i view h clear =
    let zeros = both_zero (bit_at k i) (bit_at c i) (sym (bit_at_or k c i) ∙ zero_bit (bit_or k c) i clear) in
    sym (ap (λ u. state_of u i) view) ∙ state_of-place k c bs i h
    ∙ says_unknown (bit_at k i == 1) (bit_at c i == 1) (slice_index_or bs (rank k i) []) (clear_bit k i zeros.0) (clear_bit c i zeros.1)

-- ---- all places
pub joined_all : (k c : ℕ) (bs : List (List ℕ)) (old other now : Table) (i : ℕ) → table_packet k c bs ≡ other → 32 ≤ i → IsJoinedBelow old other now i → now ≡ join_tables old other
joined_all k c bs old other now i view end h = IsTableBelow-antisym now (join_tables old other) h.below_join
    (join_tables-least old other now h.above_old (λ q. ⊎_elim
    (λ lt. h.absorbed q (omega arith))
    (λ ge. subst (λ s. IsBelow s (state_of now q)) (sym (sym (ap (λ u. state_of u q) view) ∙ state_of-beyond k c bs q ge)) tt)
    (cases_lt q 32)))

-- ---- a refusal on the way
pub on_err : {T E P : Type 0} (r : Result T E) → P → OnErr r P
on_err (Ok x) p = tt
on_err (Err e) p = p

pub refused_above : (old other now new : Table) (i : ℕ) → IsJoinedBelow old other now i → new ≡ now → IsTableBelow old new
refused_above old other now new i h is = subst (IsTableBelow old) (sym is) h.above_old

pub refused_below : (old other now new : Table) (i : ℕ) → IsJoinedBelow old other now i → new ≡ now → IsTableBelow new (join_tables old other)
refused_below old other now new i h is = subst (λ t. IsTableBelow t (join_tables old other)) (sym is) h.below_join

pub refused_again : (old other now new : Table) (i : ℕ) → IsJoinedBelow old other now i → new ≡ now → join_tables new other ≡ join_tables old other
refused_again old other now new i h is = ap (λ t. join_tables t other) is ∙ join_tables-between old other now h.above_old h.below_join
