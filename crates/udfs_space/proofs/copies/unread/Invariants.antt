use Rattle.std.proofs.Common.{◌≡◌, ◌++◌, ◌<◌, ◌-◌, filter}
use Rattle.std.specs.Prelude.{All, is_none}
use Rattle.std.specs.List.{range_with_len}
use Rattle.udfs_lattice.specs.Volumes.{first_known}
use Rattle.udfs_volume.specs.Layout.{blocks_in}
use Rattle.udfs_space.specs.Sparing.{copies, unread}
use Rattle.udfs_space.proofs.copies.unread.Given as goal

pub record IsFound (g : goal.Over) (l : goal.Live-loop-k g) : Type 0 where
  pub rest : g.B.BlockStore.tells → l.found.items ++ filter (λ k. is_none (first_known (g.B.BlockStore.states l.blocks) (copies l.map.tables.items k))) (range_with_len l.k (blocks_in l.map.size - l.k))
      ≡ unread (g.B.BlockStore.states l.blocks) l.map.tables.items (blocks_in l.map.size)
  pub below : All (λ k. k < blocks_in l.map.size) l.found.items

abbrev pub invariant-loop-k : goal.invariant-loop-k
invariant-loop-k g l = IsFound g l
