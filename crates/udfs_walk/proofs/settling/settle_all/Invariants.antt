use Rattle.std.proofs.Common.{◌≡◌, ◌++◌, drop, map, take}
use Rattle.udfs_space.specs.Views.{view_by}
use Rattle.udfs_walk.specs.Counting.{KeepsCount, icb_key}
use Rattle.udfs_walk.specs.Memos.{HasWords}
use Rattle.udfs_walk.specs.Unsettled.{settled}
use Rattle.udfs_walk.proofs.settling.settle_all.Given as goal

-- those so far are settled, and the others are as they were
abbrev pub invariant-loop-node : goal.invariant-loop-node
invariant-loop-node g l = (g.B.BlockStore.tells → l.nodes ≡ map (settled (view_by g.B.BlockStore.states l.view)) (take l.node-index l.fn.nodes) ++ drop l.node-index l.fn.nodes)
    × (g.B.BlockStore.tells → HasWords (view_by g.B.BlockStore.states l.view) l.memo)
    × (g.B.BlockStore.tells → KeepsCount (map icb_key l.fn.nodes) l.fn.memo l.fn.walks l.memo l.walks)
