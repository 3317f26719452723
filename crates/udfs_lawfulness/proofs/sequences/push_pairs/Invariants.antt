use Rattle.std.proofs.Common.{◌≡◌, ◌-◌, ◌/◌, ◌++◌, true, filter}
use Rattle.std.specs.Prelude.{flat_map}
use Rattle.std.specs.List.{range_with_len}
use Rattle.udfs_volume.specs.Differences.{reaches}
use Rattle.udfs_volume.specs.Sequence.{shorter}
use Rattle.udfs_lawfulness.specs.Sequences.{pair_at, pairs_in}
use Rattle.udfs_lawfulness.proofs.sequences.push_pairs.Given as goal

-- the position is reached, and the blocks so far with those of the positions that are left are all
abbrev pub invariant-loop-i : goal.invariant-loop-i
invariant-loop-i g l =
    let M = g.B.BlockStore.states l.blocks in
    g.B.BlockStore.tells → (reaches M l.extents l.i ≡ true)
    × (l.numbers.items ++ flat_map (pair_at l.extents) (filter (reaches M l.extents) (range_with_len l.i (shorter l.extents / 2048 - l.i)))
    ≡ l.fn.numbers.items ++ pairs_in M l.extents)
