-- Cells of which one is missing, and cells that are all known.
use Rattle.std.proofs.Common.{◌≡◌, refl, sym, ◌∙◌, ap, subst, ℕ, ◌+◌, ◌-◌, ◌≤◌, Bool, true, false, List, [], ◌∷◌, ◌++◌, length, take, cond, arith, replicate}
use Rattle.std.specs.Prelude.{zero, suc, ◌==◌, nat_lt}
use Rattle.std.proofs.lemmas.List.{length-take-le, take-append-drop}
use Rattle.udfs_lattice.specs.Volumes.{ascending, insert_once}
use Rattle.udfs_file.specs.declared.cells.Cell.{Cell}
use Rattle.udfs_file.specs.declared.cells.Cell.TheVariants.{Gap}
use Rattle.udfs_file.specs.declared.knowledge.Knowledge.{Knowledge}
use Rattle.udfs_file.specs.declared.knowledge.Knowledge.TheVariants.{Missing}
use Rattle.udfs_file.specs.declared.portions.Unread.{Unread}
use Rattle.udfs_file.specs.Knowledge.{AreKnownCells, IsKnownFirst, IsKnowledge, knowledge_count}
use Rattle.udfs_file.specs.Portions.{AreUnread}
use Rattle.udfs_walk.specs.Bare.{bare_standing, no_lists}
use Rattle.udfs_walk.specs.Standings.{cells_standing, missing_blocks, runs_from, torn_or_whole}
use Rattle.udfs_walk.specs.declared.standings.Standing.TheVariants.{Whole, Torn}
use Rattle.udfs_walk.proofs.RunLemmas.{bytes_blocks}

-- ---- what the cells alone say
some_inserted : (n : ℕ) (ms : List ℕ) (runs : List (ℕ × ℕ)) → bare_standing (torn_or_whole (insert_once n ms) runs) ≡ Torn no_lists
some_inserted n [] runs = refl
some_inserted n (m ∷ ms) runs = go (nat_lt n m) (n == m)
  where
    go : (b c : Bool) → bare_standing (torn_or_whole (cond b (n ∷ m ∷ ms) (cond c (m ∷ ms) (m ∷ insert_once n ms))) runs) ≡ Torn no_lists
    go true c = refl
    go false true = refl
    go false false = refl

torn_by : (n : ℕ) (ns : List ℕ) (cs : List Cell) → missing_blocks cs ≡ n ∷ ns → bare_standing (cells_standing cs) ≡ Torn no_lists
unfolding cells_standing
torn_by n ns cs e = ap (λ x. bare_standing (torn_or_whole (ascending x) (runs_from 0 cs))) e ∙ some_inserted n (ascending ns) (runs_from 0 cs)

-- where no cell lacks a block, all are known
pub whole_by : (cs rest : List Cell) → missing_blocks cs ≡ missing_blocks rest → rest ≡ [] → Whole ≡ bare_standing (cells_standing cs)
unfolding cells_standing
whole_by cs rest e z = sym (ap (λ x. bare_standing (torn_or_whole (ascending x) (runs_from 0 cs))) (e ∙ ap missing_blocks z))

-- ---- what is known of the front
in_front : (p : Knowledge) (s t : List Cell) → IsKnownFirst p s t → s ≡ take (knowledge_count p) s ++ t
in_front p s t f = sym (take-append-drop (knowledge_count p) s) ∙ ap (λ z. take (knowledge_count p) s ++ z) (sym f.rest)

-- behind known cells the same blocks are missing
pub known_before : (cs s t : List Cell) (p : Knowledge) → missing_blocks cs ≡ missing_blocks s → IsKnownFirst p s t → AreKnownCells (take (knowledge_count p) s) → missing_blocks cs ≡ missing_blocks t
known_before cs s t p e f k = e ∙ ap missing_blocks (in_front p s t f) ∙ bytes_blocks (take (knowledge_count p) s) t k

-- cells of blocks that are not known begin with a missing one
unread_first : (n k : ℕ) (cs rest : List Cell) → AreUnread n k cs → 1 ≤ length cs → (ns : List ℕ) × (missing_blocks (cs ++ rest) ≡ n ∷ ns)
unread_first n zero cs rest u l = absurd (let e : length cs ≡ 0 = ap length u in let z : ⊥ = omega (arith, e, l) in z)
unread_first n (suc k) cs rest u l = (missing_blocks ((replicate u.0 (Gap n) ++ u.1) ++ rest), ap (λ z. missing_blocks (z ++ rest)) u.2)

-- where cells are missing, the body is torn
pub missing_before : (cs s t : List Cell) (p : Knowledge) (run : Unread) → missing_blocks cs ≡ missing_blocks s → IsKnownFirst p s t → p ≡ Missing run → Torn no_lists ≡ bare_standing (cells_standing cs)
missing_before cs s t p run e f m =
    let u : AreUnread run.first (run.last + 1 - run.first) (take (knowledge_count p) s) = subst (λ z. IsKnowledge z (take (knowledge_count p) s)) m f.knowledge in
    let l : 1 ≤ length (take (knowledge_count p) s) = let n = length-take-le (knowledge_count p) s f.there in omega (arith, n, f.some) in
    let first = unread_first run.first (run.last + 1 - run.first) (take (knowledge_count p) s) t u l in
    sym (torn_by run.first first.0 cs (e ∙ ap missing_blocks (in_front p s t f) ∙ first.1))
