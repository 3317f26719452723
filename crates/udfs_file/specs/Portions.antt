-- The cells of a body, run by run.
--     portion_count p          how many cells a portion has
--     AreUnread n k cells      all are missing: some with block n, then some with block n + 1, and so on for k blocks
--     IsPortion p cells        these cells are the portion
--     GivesPortion s r t       the portion r was taken from the beginning of the cells s, and t is left
--     GivesCount m r n         the same of the numbers of cells alone
use Rattle.std.specs.Prelude.{◌≡◌, ⊤, ℕ, zero, suc, ◌+◌, ◌-◌, ◌≤◌, List, [], ◌++◌, length, take, drop, replicate, Option, Some, None, MatchOption}
use Rattle.udfs_lattice.specs.States.{State}
use Rattle.udfs_lattice.specs.declared.facts.Fact.TheVariants.{Unknown, Known, Conflict}
use Rattle.udfs_file.specs.declared.cells.Cell.{Cell}
use Rattle.udfs_file.specs.declared.cells.Cell.TheVariants.{Byte, Gap}
use Rattle.udfs_file.specs.declared.portions.Portion.{Portion}
use Rattle.udfs_file.specs.declared.portions.Portion.TheVariants.{Bytes, Zeros, Missing}
use Rattle.udfs_file.specs.Pieces.{byte_cells}

-- a block in this state is not known
abbrev pub IsUnreadState : State → Type 0
IsUnreadState Unknown = ⊤
IsUnreadState (Known bytes) = ⊥
IsUnreadState Conflict = ⊤

-- there is a block, it has number n, and it is not known
abbrev pub IsUnreadAt : Option (ℕ × State) → ℕ → Type 0
IsUnreadAt None n = ⊥
IsUnreadAt (Some block) n = (block.0 ≡ n) × IsUnreadState block.1

-- how many cells a portion has
abbrev pub portion_count : Portion → ℕ
portion_count (Bytes bytes) = length bytes.now
portion_count (Zeros count) = count
portion_count (Missing run) = run.count

-- the cells of this many blocks that are not known, from block n on, of each at least one
abbrev pub AreUnread : ℕ → ℕ → List Cell → Type 0
AreUnread n zero cs = cs ≡ []
AreUnread n (suc k) cs = (more : ℕ) × (rest : List Cell) × (cs ≡ replicate (suc more) (Gap n) ++ rest) × AreUnread (n + 1) k rest

-- these are the cells of the portion
abbrev pub IsPortion : Portion → List Cell → Type 0
IsPortion (Bytes bytes) cs = (holder : Option ℕ) × (cs ≡ byte_cells holder bytes.now)
IsPortion (Zeros count) cs = cs ≡ replicate count (Byte 0 None)
IsPortion (Missing run) cs = AreUnread run.first (run.last + 1 - run.first) cs

-- a portion at the beginning of some cells, and what is left after it
pub record IsFirst (p : Portion) (s t : List Cell) : Type 0 where
  pub some : 1 ≤ portion_count p
  pub there : portion_count p ≤ length s
  pub portion : IsPortion p (take (portion_count p) s)
  pub rest : t ≡ drop (portion_count p) s

-- the next portion was taken from the beginning of the cells, or no cell was left
abbrev pub GivesPortion : List Cell → Option Portion → List Cell → Type 0
GivesPortion s r t = MatchOption r ((s ≡ []) × (t ≡ [])) (λ p. IsFirst p s t)

-- so many cells were left, this portion has at least one of them, and so many are left after it; or none was left
abbrev pub GivesCount : ℕ → Option Portion → ℕ → Type 0
GivesCount before r after = MatchOption r ((before ≡ 0) × (after ≡ 0)) (λ p. (1 ≤ portion_count p) × (before ≡ portion_count p + after))
