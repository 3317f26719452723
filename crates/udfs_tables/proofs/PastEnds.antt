-- The least block behind the last one of which something is known, by the entries of a table.
use Rattle.std.proofs.Common.{◌≡◌, ◌≢◌, refl, sym, ap, subst, ◌∙◌, ℕ, ◌+◌, ◌<◌, ◌≤◌, List, [], ◌∷◌, ◌++◌, ◌⊎◌, inl, inr, arith, append_assoc, append-nil}
use Rattle.udfs_lattice.specs.States.{State}
use Rattle.udfs_lattice.specs.Tables.{Table, state_of, entries_of, IsTable}
use Rattle.udfs_lattice.specs.Records.{RisesFrom}
use Rattle.udfs_lattice.proofs.Inclusion.{Includes, included, contained}
use Rattle.udfs_lattice.specs.declared.facts.Fact.TheVariants.{Unknown, Known, Conflict}
use Rattle.udfs_lattice.proofs.PublicLaws.{entries_rise, entries_tell_states}
use Rattle.udfs_salvage.specs.Reports.{IsNothingPast, IsPastEnd}

abbrev Entry : Type 0
Entry = ℕ × State

-- each entry has the property
abbrev pub Each : (Entry → Type 0) → List Entry → Type 0
Each P [] = Unit {0}
Each P (e ∷ es) = P e × Each P es

all_append : (P : Entry → Type 0) (xs ys : List Entry) → Each P xs → Each P ys → Each P (xs ++ ys)
all_append P [] ys h g = g
all_append P (x ∷ xs) ys h g = (h.0, all_append P xs ys h.1 g)

each_of : (P : Entry → Type 0) (es : List Entry) (e : Entry) → Each P es → Includes es e → P e
each_of P [] e h i = absurd i
each_of P (x ∷ es) e h (inl p) = subst P p h.0
each_of P (x ∷ es) e h (inr i) = each_of P es e h.1 i

-- what stands in two lists stands in one of them
in_either : (xs ys : List Entry) (e : Entry) → Includes (xs ++ ys) e → Includes xs e ⊎ Includes ys e
in_either [] ys e i = inr i
in_either (x ∷ xs) ys e (inl p) = inl (inl p)
in_either (x ∷ xs) ys e (inr i) = go (in_either xs ys e i)
  where
    go : Includes xs e ⊎ Includes ys e → Includes (x ∷ xs) e ⊎ Includes ys e
    go (inl j) = inl (inr j)
    go (inr j) = inr j

in_second : (xs ys : List Entry) (e : Entry) → Includes ys e → Includes (xs ++ ys) e
in_second [] ys e i = i
in_second (x ∷ xs) ys e i = inr (in_second xs ys e i)

-- what rises goes on rising behind a front
rises_on : (low : ℕ) (done : List Entry) (e : Entry) (rest : List Entry) → RisesFrom low (done ++ e ∷ rest) → RisesFrom (e.0 + 1) rest
rises_on low [] e rest h = h.2
rises_on low (d ∷ done) e rest h = rises_on (d.0 + 1) done e rest h.2

-- and is never below its start
rises_above : (low : ℕ) (es : List Entry) (e : Entry) → RisesFrom low es → Includes es e → low ≤ e.0
rises_above low [] e h i = absurd i
rises_above low (x ∷ es) e h (inl p) = subst (λ (z : Entry). low ≤ z.0) p h.0
rises_above low (x ∷ es) e h (inr i) = let first = h.0 in let more : x.0 + 1 ≤ e.0 = rises_above (x.0 + 1) es e h.2 i in omega arith

-- The entries of a table: those up to the last block, and those that are left.
pub record UpTo (table : Table) (last : ℕ) (left : List Entry) : Type 0 where
  pub done : List Entry
  pub split : entries_of table ≡ done ++ left
  pub up_to : Each (λ (e : Entry). e.0 ≤ last) done

pub none_yet : (table : Table) (last : ℕ) (left : List Entry) → left ≡ entries_of table → UpTo table last left
none_yet table last left e = record { done = []; split = sym e; up_to = tt }

pub one_more : {table : Table} {last : ℕ} {left rest : List Entry} (e : Entry) → UpTo table last left → left ≡ e ∷ rest → e.0 ≤ last → UpTo table last rest
one_more {last = last} {rest = rest} e h is le = record {
  done = h.done ++ e ∷ [];
  split = h.split ∙ ap (λ (l : List Entry). h.done ++ l) is ∙ sym (append_assoc h.done (e ∷ []) rest);
  up_to = all_append (λ (f : Entry). f.0 ≤ last) h.done (e ∷ []) h.up_to (le, tt);
}

-- where nothing is left, no block behind the last one is an entry
pub nothing_past : (table : Table) (last : ℕ) (left : List Entry) → IsTable table → UpTo table last left → left ≡ [] → IsNothingPast (state_of table) last
nothing_past table last left sound h none n past = go (state_of table n) refl
  where
    all : entries_of table ≡ h.done
    all = h.split ∙ ap (λ (l : List Entry). h.done ++ l) none ∙ append-nil h.done

    not_here : (s : State) → state_of table n ≡ s → s ≢ Unknown → ⊥
    not_here s e some = let at : n ≤ last = each_of (λ (x : Entry). x.0 ≤ last) h.done (n, s) h.up_to
        (subst (λ (l : List Entry). Includes l (n, s)) all (included (entries_of table) (n, s) ((entries_tell_states table sound n s).1 (e, some)))) in omega (arith, at, past)

    go : (s : State) → state_of table n ≡ s → state_of table n ≡ Unknown
    go Unknown e = e
    go (Known bytes) e = absurd (not_here (Known bytes) e (λ u. let z : ⊥ = cc in z))
    go Conflict e = absurd (not_here Conflict e (λ u. let z : ⊥ = cc in z))

-- the first that is left is the least behind the last one
pub least_past : (table : Table) (last : ℕ) (left rest : List Entry) (e : Entry) → IsTable table → UpTo table last left → left ≡ e ∷ rest → last < e.0 → IsPastEnd (state_of table) last e.0
least_past table last left rest e sound h is past = record { past = past; not_unknown = here; least = least }
  where
    all : entries_of table ≡ h.done ++ e ∷ rest
    all = h.split ∙ ap (λ (l : List Entry). h.done ++ l) is

    here : state_of table e.0 ≢ Unknown
    here u = let w : (state_of table e.0 ≡ e.1) × (e.1 ≢ Unknown) = (entries_tell_states table sound e.0 e.1).0
        (contained (entries_of table) e (subst (λ (l : List Entry). Includes l e) (sym all) (in_second h.done (e ∷ rest) e (inl refl)))) in w.1 (sym w.0 ∙ u)

    least : (m : ℕ) → last < m → state_of table m ≢ Unknown → e.0 ≤ m
    least m lt some = go (in_either h.done (e ∷ rest) (m, state_of table m)
        (subst (λ (l : List Entry). Includes l (m, state_of table m)) all (included (entries_of table) (m, state_of table m) ((entries_tell_states table sound m (state_of table m)).1 (refl, some)))))
      where
        go : Includes h.done (m, state_of table m) ⊎ Includes (e ∷ rest) (m, state_of table m) → e.0 ≤ m
        go (inl i) = let le : m ≤ last = each_of (λ (x : Entry). x.0 ≤ last) h.done (m, state_of table m) h.up_to i in absurd (let z : ⊥ = omega (arith, le, lt) in z)
        go (inr (inl p)) = let q : e.0 ≡ m = ap (λ (x : Entry). x.0) p in omega (arith, q)
        go (inr (inr i)) = let le : e.0 + 1 ≤ m = rises_above (e.0 + 1) rest (m, state_of table m) (rises_on 0 h.done e rest (subst (RisesFrom 0) all (entries_rise table sound))) i in
            omega (arith, le)
