-- Blocks of the volume, kept as runs of consecutive ones.
--     run_blocks r       the blocks of a run
--     blocks_of rs       those of all runs, one after the other
use Rattle.std.specs.Prelude.{⊤, ℕ, ◌+◌, ◌-◌, ◌≤◌, List, [], ◌∷◌, flat_map}
use Rattle.std.specs.List.{range_with_len}
use Rattle.udfs_walk.specs.declared.block_runs.BlockRun.{BlockRun}

-- the blocks of a run, ascending
abbrev pub run_blocks : BlockRun → List ℕ
run_blocks r = range_with_len r.first (r.last + 1 - r.first)

-- the blocks of runs, one run after the other
unfoldable pub blocks_of : List BlockRun → List ℕ
blocks_of rs = flat_map run_blocks rs

-- no run begins before this block, nor before the run in front of it begins
abbrev pub AreSortedFrom : ℕ → List BlockRun → Type 0
AreSortedFrom n [] = ⊤
AreSortedFrom n (r ∷ rs) = (n ≤ r.first) × AreSortedFrom r.first rs

-- the runs are in the order of their first blocks; they may touch or overlap
abbrev pub AreSorted : List BlockRun → Type 0
AreSorted rs = AreSortedFrom 0 rs
