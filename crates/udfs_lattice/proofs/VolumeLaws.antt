-- What agreement gives: a known block has the volume's bytes and is not above the last one.
use Rattle.std.specs.Prelude.{◌≡◌, ◌⊎◌, ℕ, ◌≤◌, ◌==◌, Bool, true, false, cond, List, [], ◌∷◌, nat_le, nat_lt, ◌↔◌, refl}
use Rattle.std.proofs.Common.{sym, ap, subst, ◌∙◌, inl, inr, ⊎_elim}
use Rattle.std.proofs.lemmas.Bool.{lt-leb, le-leb, leb-true, eqb-true}
use Rattle.udfs_lattice.specs.declared.facts.Fact.TheVariants.{Unknown, Known, Conflict}
use Rattle.udfs_lattice.specs.Laws.{CompleteKnows}
use Rattle.udfs_lattice.specs.States.{State, IsBelow}
use Rattle.udfs_lattice.specs.Tables.{Table, state_of, IsTableBelow}
use Rattle.udfs_lattice.specs.Volumes.{Volume, complete, Agrees, insert_once, ascending}
use Rattle.udfs_lattice.proofs.Inclusion.{Includes}

complete_known : (volume : Volume) (n : ℕ) (bytes : List ℕ) (b : Bool) → cond b (Known (volume n)) Unknown ≡ Known bytes → bytes ≡ volume n
complete_known volume n bytes true e = cc
complete_known volume n bytes false e = absurd cc

pub complete_agrees : (volume : Volume) (last : ℕ) → Agrees (complete volume last) volume last
complete_agrees volume last =
    record {
      above = λ n h. ap (λ b. cond b (Known (volume n)) Unknown) (lt-leb n last h);
      known = λ n bytes e. complete_known volume n bytes (nat_le n last) e;
    }

complete_has : (volume : Volume) (n last : ℕ) (bytes : List ℕ) (b : Bool) → nat_le n last ≡ b → cond b (Known (volume n)) Unknown ≡ Known bytes → (n ≤ last) × (bytes ≡ volume n)
complete_has volume n last bytes true h e = (leb-true n last h, complete_known volume n bytes true e)
complete_has volume n last bytes false h e = absurd cc

pub complete_knows : CompleteKnows
complete_knows volume last n bytes = (
  λ e. complete_has volume n last bytes (nat_le n last) refl e,
  λ h. ap (λ b. cond b (Known (volume n)) Unknown) (le-leb n last h.0) ∙ ap Known (sym h.1),
)

below_known : (s : State) (bytes : List ℕ) → IsBelow (Known bytes) s → (s ≡ Known bytes) ⊎ (s ≡ Conflict)
below_known Unknown bytes h = absurd h
below_known (Known other) bytes h = inl (ap Known (sym h))
below_known Conflict bytes h = inr refl

-- where a larger table agrees with a volume, no smaller one says anything else
pub known_or_disputed : (t u : Table) (n : ℕ) (bytes : List ℕ) → IsTableBelow t u → state_of t n ≡ Known bytes → (state_of u n ≡ Known bytes) ⊎ (state_of u n ≡ Conflict)
known_or_disputed t u n bytes below known = below_known (state_of u n) bytes (subst (λ (s : State). IsBelow s (state_of u n)) known (below n))

-- ---- ascending lists

includes_cond : (n m x : ℕ) (ms : List ℕ) (b c : Bool) → (n == m) ≡ c → (Includes (insert_once n ms) x ↔ ((n ≡ x) ⊎ Includes ms x))
    → Includes (cond b (n ∷ m ∷ ms) (cond c (m ∷ ms) (m ∷ insert_once n ms))) x ↔ ((n ≡ x) ⊎ Includes (m ∷ ms) x)
includes_cond n m x ms true c is rest = (λ h. h, λ h. h)
includes_cond n m x ms false true is rest = (λ h. inr h, λ h. ⊎_elim (λ e. inl (sym (eqb-true n m is) ∙ e)) (λ k. k) h)
includes_cond n m x ms false false is rest = (
  λ h. ⊎_elim (λ e. inr (inl e)) (λ k. ⊎_elim (λ e. inl e) (λ j. inr (inr j)) (rest.0 k)) h,
  λ h. ⊎_elim (λ e. inr (rest.1 (inl e))) (λ k. ⊎_elim (λ e. inl e) (λ j. inr (rest.1 (inr j))) k) h,
)

includes_insert : (n x : ℕ) (ms : List ℕ) → Includes (insert_once n ms) x ↔ ((n ≡ x) ⊎ Includes ms x)
includes_insert n x [] = (λ h. h, λ h. h)
includes_insert n x (m ∷ ms) = includes_cond n m x ms (nat_lt n m) (n == m) refl (includes_insert n x ms)

-- the same numbers
pub includes_ascending : (ns : List ℕ) (x : ℕ) → Includes (ascending ns) x ↔ Includes ns x
includes_ascending [] x = (λ h. h, λ h. h)
includes_ascending (n ∷ ns) x =
    let here = includes_insert n x (ascending ns) in
    let rest = includes_ascending ns x in
    (λ h. ⊎_elim (λ e. inl e) (λ k. inr (rest.0 k)) (here.0 h), λ h. here.1 (⊎_elim (λ e. inl e) (λ k. inr (rest.1 k)) h))
