-- What is missing by what is known of cells, and in the runs of blocks that it names.
use Rattle.std.proofs.Common.{◌≡◌, ◌≤◌, refl, sym, ◌∙◌, ap, subst, ℕ, ◌+◌, List, [], ◌∷◌, ◌++◌, length, take, drop, length-append, arith, replicate, append_assoc, Option, Some, None}
use Rattle.std.specs.Prelude.{zero, suc}
use Rattle.std.specs.List.{range_with_len}
use Rattle.std.proofs.lemmas.List.{append-nil, length-replicate, length-take-le, take-append-drop}
use Rattle.udfs_lattice.specs.Volumes.{ascending}
use Rattle.udfs_file.specs.declared.cells.Cell.{Cell}
use Rattle.udfs_file.specs.declared.cells.Cell.TheVariants.{Gap}
use Rattle.udfs_file.specs.declared.knowledge.Knowledge.{Knowledge}
use Rattle.udfs_file.specs.declared.knowledge.Knowledge.TheVariants.{Known}
use Rattle.udfs_file.specs.Knowledge.{AreKnownCells, GivesKnownCount, GivesKnowledge, IsKnownFirst, IsKnowledge, knowledge_count}
use Rattle.udfs_file.specs.Portions.{AreUnread}
use Rattle.udfs_walk.specs.BlockRuns.{blocks_of, run_blocks}
use Rattle.udfs_walk.specs.declared.block_runs.BlockRun.{BlockRun}
use Rattle.udfs_walk.specs.Gaps.{AreGapsOf, GapFields, IsPassed, Leaves, runs_open}
use Rattle.udfs_walk.specs.Standings.{missing_blocks, runs_from}
use Rattle.udfs_walk.proofs.RunLemmas.{leaves_all, leaves_more, missing_passes, none_passes}

gaps_are : (n k : ℕ) → AreGapsOf n (replicate k (Gap n))
gaps_are n zero = tt
gaps_are n (suc k) = (refl, gaps_are n k)

-- a run behind others
pub blocks_more : (rs : List BlockRun) (r : BlockRun) → blocks_of (rs ++ r ∷ []) ≡ blocks_of rs ++ run_blocks r
unfolding blocks_of
blocks_more [] r = append-nil (run_blocks r)
blocks_more (x ∷ xs) r = ap (λ z. run_blocks x ++ z) (blocks_more xs r) ∙ sym (append_assoc (run_blocks x) (blocks_of xs) (run_blocks r))

-- ---- what is kept behind missing cells
abbrev after : GapFields → ℕ → ℕ → ℕ → GapFields
after g n k m = record { missing = g.missing ++ range_with_len n k; holes = g.holes; start = g.start; grown = g.grown + m }

unread_after : (n k : ℕ) (cs : List Cell) (old : GapFields) → AreUnread n k cs → Leaves cs [] old (after old n k (length cs))
unread_after n zero cs old u = subst (λ g. Leaves cs [] old g) same (none_passes cs old (ap length u))
  where
    grown : old.grown ≡ old.grown + length cs
    grown = let e : length cs ≡ 0 = ap length u in omega (arith, e)

    same : old ≡ after old n zero (length cs)
    same = λ i. record { missing = sym (append-nil old.missing) i; holes = old.holes; start = old.start; grown = grown i }
unread_after n (suc k) cs old u = subst (λ g. Leaves cs [] old g) same
    (leaves_more cs rest [] old mid (after mid (n + 1) k (length rest)) (subst (λ z. Leaves cs z old mid) (sym (append-nil rest)) first) (unread_after (n + 1) k rest mid u.3))
  where
    front : List Cell
    front = replicate (suc u.0) (Gap n)

    rest : List Cell
    rest = u.1

    mid : GapFields
    mid = after old n 1 (suc u.0)

    first : Leaves cs rest old mid
    first = leaves_more cs front rest old old mid (subst (λ z. Leaves cs z old old) u.2 (leaves_all cs old))
        (missing_passes n front old mid u.0 (gaps_are n (suc u.0)) (length-replicate (suc u.0) (Gap n)) refl refl refl refl)

    long : length cs ≡ suc u.0 + length rest
    long = ap length u.2 ∙ length-append front rest ∙ ap (λ z. z + length rest) (length-replicate (suc u.0) (Gap n))

    grown : old.grown + suc u.0 + length rest ≡ old.grown + length cs
    grown = omega (arith, long)

    same : after mid (n + 1) k (length rest) ≡ after old n (suc k) (length cs)
    same = λ i. record { missing = append_assoc old.missing (n ∷ []) (range_with_len (n + 1) k) i; holes = old.holes; start = old.start; grown = grown i }

pub unread_passes : (n k m : ℕ) (cs : List Cell) (old new : GapFields) → AreUnread n k cs → length cs ≡ m → new.missing ≡ old.missing ++ range_with_len n k
    → new.holes ≡ old.holes → new.start ≡ old.start → new.grown ≡ old.grown + m → Leaves cs [] old new
unread_passes n k m cs old new u l b h s g = subst (λ z. Leaves cs [] old z) same (unread_after n k cs old u)
  where
    grown : old.grown + length cs ≡ new.grown
    grown = omega (arith, l, g)

    same : after old n k (length cs) ≡ new
    same = λ i. record { missing = sym b i; holes = sym h i; start = sym s i; grown = grown i }

-- ---- one turn of the loop over what is known
pub known_length : (p : Knowledge) (s t : List Cell) → IsKnownFirst p s t → length s ≡ knowledge_count p + length t
known_length p s t f = sym (ap length (take-append-drop (knowledge_count p) s)) ∙ length-append (take (knowledge_count p) s) (drop (knowledge_count p) s)
    ∙ ap (λ z. z + length (drop (knowledge_count p) s)) (length-take-le (knowledge_count p) s f.there)
    ∙ ap (λ z. knowledge_count p + length z) (sym f.rest)

pub known_more : (all s t : List Cell) (p : Knowledge) (a b c : GapFields) → IsKnownFirst p s t → Leaves all s a b
    → ((cs : List Cell) → IsKnowledge p cs → length cs ≡ knowledge_count p → Leaves cs [] b c) → Leaves all t a c
known_more all s t p a b c f l g = leaves_more all (take (knowledge_count p) s) t a b c
    (subst (λ z. Leaves all z a b) (sym (take-append-drop (knowledge_count p) s) ∙ ap (λ z. take (knowledge_count p) s ++ z) (sym f.rest)) l)
    (g (take (knowledge_count p) s) f.knowledge (length-take-le (knowledge_count p) s f.there))

pub taken : (s t : List Cell) (r : Option Knowledge) (p : Knowledge) → r ≡ Some p → GivesKnowledge s r t → IsKnownFirst p s t
taken s t r p e g = subst (λ z. GivesKnowledge s z t) e g

pub ended : (s t : List Cell) (r : Option Knowledge) → r ≡ None → GivesKnowledge s r t → s ≡ []
ended s t r e g = (subst (λ z. GivesKnowledge s z t) e g).0

-- where nothing is left, all is passed
pub passed_all : (all rest : List Cell) (old new : GapFields) → rest ≡ [] → Leaves all rest old new
    → old.missing ≡ [] → old.holes ≡ [] → old.start ≡ 0 → old.grown ≡ 0 → IsPassed all [] new
unfolding Leaves
passed_all all rest old new e p m r s o = subst (λ x. IsPassed all x new) (ap (λ x. x ++ []) e) (p all [] fresh)
  where
    fresh : IsPassed all (all ++ []) old
    fresh = record {
      blocks = ap (λ x. ascending (missing_blocks x)) (sym (append-nil all)) ∙ ap (λ x. ascending (x ++ missing_blocks (all ++ []))) (sym m);
      runs = ap (runs_from 0) (sym (append-nil all)) ∙ (λ i. sym r i ++ runs_open (sym s i) (sym o i) (all ++ []));
    }

-- ---- what is known of the first cells
pub all_known : (k : Knowledge) (n : ℕ) (cs : List Cell) → k ≡ Known n → IsKnowledge k cs → AreKnownCells cs
all_known k n cs e i = subst (λ z. IsKnowledge z cs) e i

pub started : (all s : List Cell) (g : GapFields) → s ≡ all → Leaves all s g g
started all s g e = subst (λ z. Leaves all z g g) (sym e) (leaves_all all g)

-- ---- how many cells are left, whatever is told of them
pub fewer_left : (m n : ℕ) (r : Option Knowledge) (p : Knowledge) → r ≡ Some p → GivesKnownCount m r n → (1 ≤ knowledge_count p) × (m ≡ knowledge_count p + n)
fewer_left m n r p e g = subst (λ z. GivesKnownCount m z n) e g
