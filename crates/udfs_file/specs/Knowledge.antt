-- What is known of the cells of a body, run by run, without a byte of them.
--     AreKnownCells cells        all are known
--     knowledge_count k          of how many cells it tells
--     IsKnowledge k cells        these cells are known, or missing with these blocks
--     GivesKnowledge s r t       r tells of the beginning of the cells s, and t is left
--     GivesKnownCount m r n      the same of the numbers of cells alone
use Rattle.std.specs.Prelude.{◌≡◌, ⊤, ℕ, ◌+◌, ◌-◌, ◌≤◌, List, [], ◌∷◌, length, take, drop, Option, Some, None, MatchOption}
use Rattle.udfs_file.specs.declared.cells.Cell.{Cell}
use Rattle.udfs_file.specs.declared.cells.Cell.TheVariants.{Byte, Gap}
use Rattle.udfs_file.specs.declared.knowledge.Knowledge.{Knowledge}
use Rattle.udfs_file.specs.declared.knowledge.Knowledge.TheVariants.{Known, Missing}
use Rattle.udfs_file.specs.Portions.{AreUnread}

-- the cell has a byte
abbrev pub IsByte : Cell → Type 0
IsByte (Byte x holder) = ⊤
IsByte (Gap n) = ⊥

-- all cells are known
abbrev pub AreKnownCells : List Cell → Type 0
AreKnownCells [] = ⊤
AreKnownCells (c ∷ cs) = IsByte c × AreKnownCells cs

-- of how many cells it tells
abbrev pub knowledge_count : Knowledge → ℕ
knowledge_count (Known count) = count
knowledge_count (Missing run) = run.count

-- these cells are known, or missing with these blocks
abbrev pub IsKnowledge : Knowledge → List Cell → Type 0
IsKnowledge (Known count) cs = AreKnownCells cs
IsKnowledge (Missing run) cs = AreUnread run.first (run.last + 1 - run.first) cs

-- what is known of the beginning of some cells, and what is left after it
pub record IsKnownFirst (k : Knowledge) (s t : List Cell) : Type 0 where
  pub some : 1 ≤ knowledge_count k
  pub there : knowledge_count k ≤ length s
  pub knowledge : IsKnowledge k (take (knowledge_count k) s)
  pub rest : t ≡ drop (knowledge_count k) s

-- what is known of the next cells was told from the beginning of the cells, or no cell was left
abbrev pub GivesKnowledge : List Cell → Option Knowledge → List Cell → Type 0
GivesKnowledge s r t = MatchOption r ((s ≡ []) × (t ≡ [])) (λ k. IsKnownFirst k s t)

-- so many cells were left, at least one of them is told of, and so many are left after these; or none was left
abbrev pub GivesKnownCount : ℕ → Option Knowledge → ℕ → Type 0
GivesKnownCount before r after = MatchOption r ((before ≡ 0) × (after ≡ 0)) (λ k. (1 ≤ knowledge_count k) × (before ≡ knowledge_count k + after))
