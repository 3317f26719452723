-- Blocks that are gathered from nodes, one node after the other.
--     missing_at view node                what a node lacks
--     AreGathered view icbs blocks     what is missing at those ICBs is among the blocks
use Rattle.std.specs.Prelude.{◌≡◌, ℕ, ◌<◌, List, true, Contains}
use Rattle.std.specs.BTreeSet.{BTreeSet, contains}
use Rattle.std.specs.Ordering.{nat_cmp}
use Rattle.udfs_tag.specs.Fields.{number_of}
use Rattle.udfs_tag.specs.declared.layouts.LongAd.{LongAd}
use Rattle.udfs_lattice.specs.Volumes.{ascending}
use Rattle.udfs_space.specs.Places.{View}
use Rattle.udfs_walk.specs.Bare.{full_node, lists_at}
use Rattle.udfs_walk.specs.NodeFields.{NodeFields}
use Rattle.udfs_walk.specs.Rereads.{missing_of}
use Rattle.udfs_walk.specs.Targets.{icb_of}

-- the blocks that a node lacks
abbrev pub missing_at : View → NodeFields → List ℕ
missing_at view n = missing_of (full_node view n).standing

-- the blocks that are missing at addresses of these ICBs, each by its number, are among these
abbrev pub AreGathered : View → BTreeSet ℕ → List ℕ → Type 0
AreGathered view icbs blocks = (a : LongAd) → a.block < 4294967296 → contains nat_cmp icbs (number_of (icb_of a)) ≡ true
    → (n : ℕ) → Contains (lists_at view a).missing n → Contains (ascending blocks) n
