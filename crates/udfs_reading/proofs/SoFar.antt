-- The inputs that were read so far, and the next one.
use Rattle.std.proofs.Common.{◌≡◌, ◌≢◌, ℕ, ◌+◌, ◌<◌, ◌≤◌, List, [], ◌∷◌, ◌++◌, length, get_or, map, Option, Err, refl, sym, ap, subst, ◌∙◌, append_assoc, append-nil, arith, length-append}
use Rattle.std.specs.Prelude.{IfSome, ◌↔◌}
use Rattle.std.proofs.Math.ListN.{set}
use Rattle.std.proofs.lemmas.List.{get_or_at, set_at, map-append}
use Rattle.udfs_lattice.specs.Tables.{Table, join_tables}
use Rattle.udfs_lattice.specs.TableLaws.{join_tables-assoc, join_tables-empty_right}
use Rattle.udfs_lattice.specs.Records.{join_all}
use Rattle.udfs_lattice.proofs.PublicLaws.{table_added}
use Rattle.udfs_reading.specs.declared.error.ReadingError.{ReadingError}
use Rattle.udfs_reading.specs.declared.error.ReadingError.{ReadingError}
use Rattle.udfs_reading.specs.declared.error.ReadingFault.TheVariants.{Io}
use Rattle.udfs_reading.specs.Answers.{GivesFault, RefusesFaulty, FailsAfter}
use Rattle.udfs_reading.specs.Inputs.{inputs}
use Rattle.udfs_reading.specs.Several.{HasTable, TablesAre, InputFails}

-- n inputs were read, and their tables were joined to that before
pub record SoFar {R : Type 0} (remaining : R → Option (List ℕ)) (faults : R → ℕ) (olds news : List R) (n : ℕ) (before table : Table) : Type 0 where
  pub earlier : List R
  pub earlier_new : List R
  pub later : List R
  pub were : olds ≡ earlier ++ later
  pub are : news ≡ earlier_new ++ later
  pub many : length earlier ≡ n
  pub many_new : length earlier_new ≡ n
  pub tables : List Table
  pub have_tables : TablesAre remaining earlier tables
  pub counts : map faults earlier_new ≡ map faults earlier
  pub table_is : table ≡ join_tables before (join_all tables)

tables-push : {R : Type 0} (remaining : R → Option (List ℕ)) (rs : List R) (ts : List Table) (r : R) (t : Table) → TablesAre remaining rs ts → IfSome (remaining r) (λ bytes. HasTable bytes t)
    → TablesAre remaining (rs ++ r ∷ []) (ts ++ t ∷ [])
tables-push remaining [] [] r t all h = (h, tt)
tables-push remaining [] (u ∷ ts) r t all h = absurd all
tables-push remaining (s ∷ rs) [] r t all h = absurd all
tables-push remaining (s ∷ rs) (u ∷ ts) r t all h = (all.0, tables-push remaining rs ts r t all.1 h)

-- the next one is the first of those that are left
next_is : {R : Type 0} (xs front rest : List R) (n : ℕ) (d : R) → xs ≡ front ++ rest → length front ≡ n → n < length xs → (more : List R) × (rest ≡ get_or xs n d ∷ more)
next_is {R} xs front [] n d e len lt = absurd (omega (arith, ap length e, length-append front []))
next_is {R} xs front (y ∷ more) n d e len lt =
    let at : get_or xs n d ≡ y = ap (λ (l : List R). get_or l n d) e ∙ get_or_at front y more d n len in
    (more, ap (λ (z : R). z ∷ more) (sym at))

pub so_far_none : {R : Type 0} (remaining : R → Option (List ℕ)) (faults : R → ℕ) (rs : List R) (before : Table) → SoFar remaining faults rs rs 0 before before
so_far_none remaining faults rs before =
    record { earlier = []; earlier_new = []; later = rs; were = refl; are = refl; many = refl; many_new = refl; tables = []; have_tables = tt; counts = refl; table_is = sym (join_tables-empty_right before) }

-- one more was read
pub so_far_more : {R : Type 0} (remaining : R → Option (List ℕ)) (faults : R → ℕ) (olds news : List R) (n : ℕ) (before table : Table) (new d : R) (t u : Table)
    → SoFar remaining faults olds news n before table → n < length news → IfSome (remaining (get_or news n d)) (λ bytes. HasTable bytes t) → faults new ≡ faults (get_or news n d) → u ≡ join_tables table t
    → SoFar remaining faults olds (set news n new) (n + 1) before u
so_far_more {R} remaining faults olds news n before table new d t u h lt has kept joined =
    let x : R = get_or news n d in
    let next = next_is news h.earlier_new h.later n d h.are h.many_new lt in
    let many = h.many in
    let many_new = h.many_new in
    record {
      earlier = h.earlier ++ x ∷ [];
      earlier_new = h.earlier_new ++ new ∷ [];
      later = next.0;
      were = h.were ∙ ap (λ (l : List R). h.earlier ++ l) next.1 ∙ sym (append_assoc h.earlier (x ∷ []) next.0);
      are = ap (λ (l : List R). set l n new) (h.are ∙ ap (λ (l : List R). h.earlier_new ++ l) next.1) ∙ set_at h.earlier_new x next.0 new n h.many_new ∙ sym (append_assoc h.earlier_new (new ∷ []) next.0);
      many = omega (arith, length-append h.earlier (x ∷ []));
      many_new = omega (arith, length-append h.earlier_new (new ∷ []));
      tables = h.tables ++ t ∷ [];
      have_tables = tables-push remaining h.earlier h.tables x t h.have_tables has;
      counts = map-append faults h.earlier_new (new ∷ []) ∙ ap (λ (l : List ℕ). l ++ faults new ∷ []) h.counts ∙ ap (λ (k : ℕ). map faults h.earlier ++ k ∷ []) kept ∙ sym (map-append faults h.earlier (x ∷ []));
      table_is = joined ∙ ap (λ (l : Table). join_tables l t) h.table_is ∙ join_tables-assoc before (join_all h.tables) t ∙ ap (join_tables before) (sym (table_added h.tables t));
    }

-- the next one fails
pub so_far_fails : {R : Type 0} (remaining : R → Option (List ℕ)) (faults : R → ℕ) (olds news : List R) (n : ℕ) (before table : Table) (new d : R) (e : ReadingError)
    → SoFar remaining faults olds news n before table → n < length news
    → ((e.fault ≡ Io) ↔ (faults new ≢ faults (get_or news n d)))
    → GivesFault inputs (remaining (get_or news n d)) (Err e)
    → RefusesFaulty inputs (remaining (get_or news n d)) (Err e)
    → FailsAfter inputs (remaining (get_or news n d)) (remaining new) (Err e)
    → InputFails remaining faults olds (set news n new) (record { input = n + 1; error = e })
so_far_fails {R} remaining faults olds news n before table new d e h lt io fault faulty cut =
    let x : R = get_or news n d in
    let next = next_is news h.earlier_new h.later n d h.are h.many_new lt in
    record {
      earlier = h.earlier;
      earlier_new = h.earlier_new;
      later = next.0;
      old = x;
      new = new;
      were = h.were ∙ ap (λ (l : List R). h.earlier ++ l) next.1;
      are = ap (λ (l : List R). set l n new) (h.are ∙ ap (λ (l : List R). h.earlier_new ++ l) next.1) ∙ set_at h.earlier_new x next.0 new n h.many_new;
      which = ap (λ (k : ℕ). k + 1) (sym h.many);
      tables = h.tables;
      have_tables = h.have_tables;
      counts = h.counts;
      io = io;
      fault = fault;
      faulty = faulty;
      cut = cut;
    }

nothing_left : {R : Type 0} (xs front rest : List R) (n : ℕ) → xs ≡ front ++ rest → length front ≡ n → length xs ≤ n → rest ≡ []
nothing_left xs front [] n e len le = refl
nothing_left xs front (y ∷ more) n e len le = absurd (omega (arith, ap length e, length-append front (y ∷ more)))

-- all were read
pub so_far_all : {R : Type 0} (remaining : R → Option (List ℕ)) (faults : R → ℕ) (olds news : List R) (n : ℕ) (before table : Table) → SoFar remaining faults olds news n before table → length news ≤ n
    → ((ts : List Table) × TablesAre remaining olds ts × (table ≡ join_tables before (join_all ts))) × (map faults news ≡ map faults olds)
so_far_all {R} remaining faults olds news n before table h le =
    let none = nothing_left news h.earlier_new h.later n h.are h.many_new le in
    let olds_are : olds ≡ h.earlier = h.were ∙ ap (λ (l : List R). h.earlier ++ l) none ∙ append-nil h.earlier in
    let news_are : news ≡ h.earlier_new = h.are ∙ ap (λ (l : List R). h.earlier_new ++ l) none ∙ append-nil h.earlier_new in
    ((h.tables, subst (λ (l : List R). TablesAre remaining l h.tables) (sym olds_are) h.have_tables, h.table_is), ap (map faults) news_are ∙ h.counts ∙ ap (map faults) (sym olds_are))
