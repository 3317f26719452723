-- The join of several tables depends on the set of them alone.
use Rattle.std.specs.Prelude.{◌≡◌, ℕ, ◌==◌, Bool, true, false, cond, Contains, List, [], ◌∷◌, ◌++◌, map, refl}
use Rattle.std.proofs.Common.{sym, ap, subst, ◌∙◌, ⊎_elim}
use Rattle.std.proofs.lemmas.Bool.{eqb-true}
use Rattle.udfs_lattice.specs.declared.facts.Fact.TheVariants.{Unknown}
use Rattle.udfs_lattice.specs.Laws.{ForgettingCommutes}
use Rattle.udfs_lattice.specs.States.{State, IsBelow, IsBelow-trans, join_of}
use Rattle.udfs_lattice.specs.Tables.{Table, state_of, empty_table, join_tables, IsTableBelow}
use Rattle.udfs_lattice.specs.TableLaws.{state_of-empty, state_of-join_tables, same_table, join_tables-assoc, join_tables-comm, IsTableBelow-join_tables, IsTableBelow-second, join_tables-least, IsTableBelow-antisym}
use Rattle.udfs_lattice.proofs.Inclusion.{here, there, here_or_there, in_nothing}
use Rattle.udfs_lattice.specs.Records.{Record, table_of, join_all, IsLeastAbove, SameTables, all_records}
use Rattle.udfs_lattice.proofs.RecordLaws.{table_of-append}

below_trans : (t u v : Table) → IsTableBelow t u → IsTableBelow u v → IsTableBelow t v
below_trans t u v h k n = IsBelow-trans (state_of t n) (state_of u n) (state_of v n) (h n) (k n)

empty_below : (t : Table) → IsTableBelow empty_table t
empty_below t n = subst (λ (s : State). IsBelow s (state_of t n)) (sym (state_of-empty n)) tt

pub join_all-least : (ts : List Table) → IsLeastAbove ts (join_all ts)
join_all-least [] = record { above = λ t h. in_nothing t h; least = λ v h. empty_below v }
join_all-least (x ∷ ts) =
    let rest = join_all-least ts in
    record {
      above = λ t h. ⊎_elim
          (λ (e : x ≡ t). subst (λ (u : Table). IsTableBelow u (join_tables x (join_all ts))) e (IsTableBelow-join_tables x (join_all ts)))
          (λ (k : Contains ts t). below_trans t (join_all ts) (join_tables x (join_all ts)) (rest.above t k) (IsTableBelow-second x (join_all ts)))
          (here_or_there x ts t h);
      least = λ v h. join_tables-least x (join_all ts) v (h x (here x ts)) (rest.least v (λ t k. h t (there x ts t k)));
    }

pub join_all-same : (ts us : List Table) → SameTables ts us → join_all ts ≡ join_all us
join_all-same ts us same =
    let a = join_all-least ts in
    let b = join_all-least us in
    IsTableBelow-antisym (join_all ts) (join_all us)
    (a.least (join_all us) (λ t h. b.above t ((same t).0 h)))
    (b.least (join_all ts) (λ t h. a.above t ((same t).1 h)))

pub join_all-push : (ts : List Table) (t : Table) → join_all (ts ++ t ∷ []) ≡ join_tables (join_all ts) t
join_all-push [] t = join_tables-comm t empty_table
join_all-push (u ∷ ts) t = ap (join_tables u) (join_all-push ts t) ∙ sym (join_tables-assoc u (join_all ts) t)

-- the join of the tables of several lists of records is the table of all their records
pub join_all-records : (rss : List (List Record)) → join_all (map table_of rss) ≡ table_of (all_records rss)
join_all-records [] = refl
join_all-records (rs ∷ rss) = ap (join_tables (table_of rs)) (join_all-records rss) ∙ sym (table_of-append rs (all_records rss))

-- ---- a block is forgotten
forgotten_joined : (t u v w : Table) (n q : ℕ) (b : Bool) → (q == n) ≡ b → state_of u q ≡ cond b Unknown (state_of t q) → state_of v n ≡ Unknown → state_of w q ≡ cond b Unknown (state_of (join_tables t v) q)
    → state_of w q ≡ join_of (state_of u q) (state_of v q)
forgotten_joined t u v w n q true is old none new = new ∙ sym (ap (state_of v) (eqb-true q n is) ∙ none) ∙ ap (λ s. join_of s (state_of v q)) (sym old)
forgotten_joined t u v w n q false is old none new = new ∙ state_of-join_tables t v q ∙ ap (λ s. join_of s (state_of v q)) (sym old)

pub forgetting_commutes : ForgettingCommutes
forgetting_commutes t u v w n old none new = same_table w (join_tables u v) (λ q. forgotten_joined t u v w n q (q == n) refl (old q) none (new q) ∙ sym (state_of-join_tables u v q))
