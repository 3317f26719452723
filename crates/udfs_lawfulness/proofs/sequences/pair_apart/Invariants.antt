use Rattle.std.proofs.Common.{◌≡◌, ◌-◌, ◌/◌, ◌&&◌, true}
use Rattle.std.specs.List.{list_any, range_with_len}
use Rattle.udfs_volume.specs.Differences.{differ_at, differ_in, reaches}
use Rattle.udfs_volume.specs.Sequence.{shared, shorter}
use Rattle.udfs_lawfulness.proofs.sequences.pair_apart.Given as goal

-- the position is reached, and what is left decides
abbrev pub invariant-loop-i : goal.invariant-loop-i
invariant-loop-i g l =
    let M = g.B.BlockStore.states l.blocks in
    g.B.BlockStore.tells → (reaches M l.extents l.i ≡ true)
    × (list_any (λ k. reaches M l.extents k && differ_at M l.extents k) (range_with_len l.i (shorter l.extents / 2048 - l.i)) ≡ differ_in M (shared l.extents))
