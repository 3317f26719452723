-- The entries of a table are the blocks of which it says something, each with what it says.
use Rattle.std.proofs.Common.{◌≡◌, ◌≢◌, refl, sym, ◌∙◌, ap, subst, inl, inr, ◌↔◌, ℕ, ◌+◌, ◌≤◌, ◌==◌, Bool, true, false, cond, List, [], ◌∷◌, arith}
use Rattle.std.proofs.lemmas.Bool.{eqb-true, eq-eqb, ne_eqb}
use Rattle.udfs_lattice.specs.declared.facts.Fact.TheVariants.{Unknown, Known, Conflict}
use Rattle.udfs_lattice.specs.Laws.{EntriesTellStates}
use Rattle.udfs_lattice.specs.States.{State, join_of, join_of-unknown}
use Rattle.udfs_lattice.specs.Tables.{Table, state_of, entries_of}
use Rattle.udfs_lattice.specs.TableLaws.{state_of-empty}
use Rattle.udfs_lattice.specs.Records.{table_of_entries, IsEntry, RisesFrom}
use Rattle.udfs_lattice.proofs.Inclusion.{Includes, included, contained}
use Rattle.udfs_lattice.proofs.EntryLaws.{state_of-cons, unknown_below, rises-entries_of, table_of_entries-entries_of}

abbrev Tells : List (ℕ × State) → ℕ → State → Type 0
Tells es n s = Includes es (n, s) ↔ ((state_of (table_of_entries es) n ≡ s) × (s ≢ Unknown))

-- an entry says something
not_unknown : (n : ℕ) (s : State) → IsEntry n s → s ≢ Unknown
not_unknown n Unknown h u = h
not_unknown n (Known bytes) h u = cc
not_unknown n Conflict h u = cc

-- the state of the first entry's block is that entry's, and of any other the later ones tell
head_is : (low : ℕ) (e : ℕ × State) (es : List (ℕ × State)) → RisesFrom low (e ∷ es) → state_of (table_of_entries (e ∷ es)) e.0 ≡ e.1
head_is low e es h =
    state_of-cons e es e.0
    ∙ ap (λ b. join_of (cond b e.1 Unknown) (state_of (table_of_entries es) e.0)) (eq-eqb e.0 e.0 refl)
    ∙ ap (join_of e.1) (unknown_below (e.0 + 1) es e.0 h.2 (omega arith))
    ∙ join_of-unknown e.1

tail_is : (e : ℕ × State) (es : List (ℕ × State)) (n : ℕ) → n ≢ e.0 → state_of (table_of_entries (e ∷ es)) n ≡ state_of (table_of_entries es) n
tail_is e es n other = state_of-cons e es n ∙ ap (λ b. join_of (cond b e.1 Unknown) (state_of (table_of_entries es) n)) (ne_eqb n e.0 other)

-- no later entry is of the first one's block
later : (low : ℕ) (es : List (ℕ × State)) (n : ℕ) (s : State) → RisesFrom low es → Includes es (n, s) → low ≤ n
later low [] n s h i = absurd i
later low (e ∷ es) n s h (inl p) = subst (λ x. low ≤ x) (ap (λ z. z.0) p) h.0
later low (e ∷ es) n s h (inr i) = let first = h.0 in let more : e.0 + 1 ≤ n = later (e.0 + 1) es n s h.2 i in omega arith

-- behind the first entry, where the later ones tell theirs
on : (low : ℕ) (e : ℕ × State) (es : List (ℕ × State)) → RisesFrom low (e ∷ es) → (n : ℕ) (s : State) → Tells es n s → Tells (e ∷ es) n s
on low e es h n s rest = (there, λ w. by (n == e.0) refl w)
  where
    there : Includes (e ∷ es) (n, s) → (state_of (table_of_entries (e ∷ es)) n ≡ s) × (s ≢ Unknown)
    there (inl p) = subst (λ (z : ℕ × State). (state_of (table_of_entries (e ∷ es)) z.0 ≡ z.1) × (z.1 ≢ Unknown)) p (head_is low e es h, not_unknown e.0 e.1 h.1)
    there (inr i) = let above : e.0 + 1 ≤ n = later (e.0 + 1) es n s h.2 i in
        (tail_is e es n (λ is. let z : ⊥ = omega (arith, above, is) in z) ∙ (rest.0 i).0, (rest.0 i).1)

    by : (b : Bool) → (n == e.0) ≡ b → (state_of (table_of_entries (e ∷ es)) n ≡ s) × (s ≢ Unknown) → Includes (e ∷ es) (n, s)
    by true q w = let same : n ≡ e.0 = eqb-true n e.0 q in
        let is : e.1 ≡ s = sym (head_is low e es h) ∙ ap (state_of (table_of_entries (e ∷ es))) (sym same) ∙ w.0 in inl (λ i. (sym same i, is i))
    by false q w = inr (rest.1 (sym (tail_is e es n (λ is. absurd (let t : true ≡ false = sym (eq-eqb n e.0 is) ∙ q in let z : ⊥ = cc in z))) ∙ w.0, w.1))

rising_tell : (low : ℕ) (es : List (ℕ × State)) → RisesFrom low es → (n : ℕ) (s : State) → Tells es n s
rising_tell low [] h n s = (λ i. absurd i, λ w. absurd (w.1 (sym w.0 ∙ state_of-empty n)))
rising_tell low (e ∷ es) h n s = on low e es h n s (rising_tell (e.0 + 1) es h.2 n s)

pub entries_tell_states : EntriesTellStates
entries_tell_states t sound n s = (λ c. tells.0 (included (entries_of t) (n, s) c), λ h. contained (entries_of t) (n, s) (tells.1 h))
  where
    tells : Includes (entries_of t) (n, s) ↔ ((state_of t n ≡ s) × (s ≢ Unknown))
    tells = subst (λ (u : Table). Includes (entries_of t) (n, s) ↔ ((state_of u n ≡ s) × (s ≢ Unknown))) (table_of_entries-entries_of t sound)
        (rising_tell 0 (entries_of t) (rises-entries_of t sound) n s)
