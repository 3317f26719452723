-- How many walks over bodies the walk over all routes makes.
--     icbs_of nodes                         the information control blocks of nodes, each once
--     IsCounted start icbs memo walks       each walk so far left what it found, and at these information control blocks alone
--     KeepsCount icbs old before new after  what was counted before stays so: the walks since were at these alone
--     IsWithinTaken icbs taken              the next node has one of these
use Rattle.std.specs.Prelude.{◌≡◌, ◌+◌, ℕ, ⊤, List, Option, Some, None, map, Contains}
use Rattle.std.specs.BTreeMap.{IsOrdered, btree_map_len, keys}
use Rattle.std.specs.Ordering.{nat_cmp}
use Rattle.udfs_lattice.specs.Volumes.{ascending}
use Rattle.udfs_tag.specs.Fields.{number_of}
use Rattle.udfs_walk.specs.NodeFields.{NodeFields}
use Rattle.udfs_walk.specs.Targets.{icb_of}
use Rattle.udfs_walk.specs.declared.memos.Memo.{Memo}

-- the information control block of a node, as one number
abbrev pub icb_key : NodeFields → ℕ
icb_key n = number_of (icb_of n.icb)

-- the information control blocks of nodes, each once
abbrev pub icbs_of : List NodeFields → List ℕ
icbs_of nodes = ascending (map icb_key nodes)

-- all numbers of one list are in another
abbrev pub AreWithin : List ℕ → List ℕ → Type 0
AreWithin ns icbs = (n : ℕ) → Contains ns n → Contains icbs n

-- as many walks were made since the start as entries are kept, each at one of these information control blocks
pub record IsCounted (start : ℕ) (icbs : List ℕ) (memo : Memo) (walks : ℕ) : Type 0 where
  pub count : walks ≡ start + btree_map_len memo.kept
  pub once : IsOrdered nat_cmp memo.kept
  pub within : AreWithin (keys memo.kept) icbs

-- from one memo and number of walks to another: among whichever information control blocks these are, what was counted stays so
abbrev pub KeepsCount : List ℕ → Memo → ℕ → Memo → ℕ → Type 0
KeepsCount ns old before new after = (start : ℕ) (icbs : List ℕ) → AreWithin ns icbs → IsCounted start icbs old before → IsCounted start icbs new after

-- the node that was gone to, if one was, has one of these information control blocks
abbrev pub IsWithinTaken : {F : Type 0} → List ℕ → Option (NodeFields × F) → Type 0
IsWithinTaken icbs None = ⊤
IsWithinTaken icbs (Some taken) = Contains icbs (icb_key taken.0)
