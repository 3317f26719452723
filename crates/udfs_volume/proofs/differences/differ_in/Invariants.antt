use Rattle.std.proofs.Common.{◌≡◌, ◌-◌, ◌/◌, ◌&&◌, true}
use Rattle.std.specs.List.{list_any, range_with_len}
use Rattle.udfs_volume.specs.Differences.{differ_at, differ_in, reaches}
use Rattle.udfs_volume.proofs.differences.differ_in.Given as goal

-- the position is reached, and what is left decides
abbrev pub invariant-loop-i : goal.invariant-loop-i
invariant-loop-i g l =
    let M = g.B.BlockStore.states l.blocks in
    g.B.BlockStore.tells → (reaches M l.extents l.i ≡ true)
    × (list_any (λ k. reaches M l.extents k && differ_at M l.extents k) (range_with_len l.i (l.extents.main.length / 2048 - l.i)) ≡ differ_in M l.extents)
