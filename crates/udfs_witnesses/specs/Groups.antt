-- The blocks of the groups of those that are to be read again.
--     group_start size n                        the first block of the group of block n, where groups of this size are aligned to it
--     IsBeside blocks last size listed n        block n lies in the group of a listed block, and between two of the group that are not known
--     IsGrouped blocks last size listed n       block n is listed, or lies so
--     AreGrouped blocks last size listed asked  these are all such blocks, ascending and each once
--     AreEdges blocks last size n from to       the first and the last block in the group of n that are not known
use Rattle.std.specs.Prelude.{◌≡◌, ◌⊎◌, ◌↔◌, ℕ, ◌+◌, ◌*◌, ◌/◌, ◌<◌, ◌≤◌, true, false, List, Contains}
use Rattle.udfs_lattice.specs.States.{is_known}
use Rattle.udfs_lattice.specs.Volumes.{Blocks}
use Rattle.udfs_volume.specs.Seen.{IsRising}

-- the first block of the group of block n
abbrev pub group_start : ℕ → ℕ → ℕ
group_start size n = n / size * size

-- Block n is in the group of a listed block `one` of the disc. So are `before` and `after`, which are not known, and block n is one of these or lies between them: the known
-- blocks at the edges of a group are left out.
pub record IsBeside (blocks : Blocks) (last size : ℕ) (listed : List ℕ) (n : ℕ) : Type 0 where
  pub one : ℕ
  pub is_listed : Contains listed one
  pub on_disc : one ≤ last
  pub before : ℕ
  pub after : ℕ
  pub begins : group_start size one ≤ before
  pub is_before : before ≤ n
  pub is_after : n ≤ after
  pub ends : after < group_start size one + size
  pub to_last : after ≤ last
  pub unread_before : is_known (blocks before) ≡ false
  pub unread_after : is_known (blocks after) ≡ false

-- block n is listed, or lies in the group of one that is
abbrev pub IsGrouped : Blocks → ℕ → ℕ → List ℕ → ℕ → Type 0
IsGrouped blocks last size listed n = Contains listed n ⊎ IsBeside blocks last size listed n

-- these are exactly all such blocks, and each is below all that follow it
pub record AreGrouped (blocks : Blocks) (last size : ℕ) (listed asked : List ℕ) : Type 0 where
  pub rises : IsRising asked
  pub exact : (n : ℕ) → Contains asked n ↔ IsGrouped blocks last size listed n

-- the first and the last block of the group of block n, up to the last block of the disc, that are not known
pub record AreEdges (blocks : Blocks) (last size n from to : ℕ) : Type 0 where
  pub begins : group_start size n ≤ from
  pub is_before : from ≤ n
  pub is_after : n ≤ to
  pub ends : to < group_start size n + size
  pub to_last : to ≤ last
  pub unread_from : is_known (blocks from) ≡ false
  pub unread_to : is_known (blocks to) ≡ false
  pub known_before : (m : ℕ) → group_start size n ≤ m → m < from → is_known (blocks m) ≡ true
  pub known_after : (m : ℕ) → to < m → m ≤ last → m < group_start size n + size → is_known (blocks m) ≡ true
