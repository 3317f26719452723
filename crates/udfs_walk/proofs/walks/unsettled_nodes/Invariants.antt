use Rattle.std.proofs.Common.{◌≡◌, ◌+◌, ◌-◌, ◌*◌, ◌≤◌, length, map}
use Rattle.udfs_space.specs.Views.{view_by}
use Rattle.udfs_walk.specs.Counting.{KeepsCount, icb_key}
use Rattle.udfs_walk.specs.Memos.{IsMemo}
use Rattle.udfs_walk.proofs.Owed.{IsWalking, left_in}
use Rattle.udfs_walk.proofs.walks.unsettled_nodes.Given as goal

-- what the walk still owes, if it is told what the store holds; there is room for all that is left, whatever it holds
abbrev pub invariant-walk : goal.invariant-walk
invariant-walk g l = record {
  walking : g.B.BlockStore.tells → IsWalking (view_by g.B.BlockStore.states l.view) l.fn.root l.nodes.items l.frames.items l.room;
  few : length l.nodes.items + left_in l.frames.items + l.room ≡ 65536;
  memo : g.B.BlockStore.tells → IsMemo (view_by g.B.BlockStore.states l.view) l.memo;
  once : l.walks ≤ l.fn.walks + length l.nodes.items;
  counted : g.B.BlockStore.tells → KeepsCount (map icb_key l.nodes.items) l.fn.memo l.fn.walks l.memo l.walks;
}

abbrev pub decreases-walk : goal.decreases-walk
decreases-walk g l = 2 * (65536 - length l.nodes.items) + length l.frames.items
