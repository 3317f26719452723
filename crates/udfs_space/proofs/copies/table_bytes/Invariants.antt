use Rattle.std.proofs.Common.{◌≡◌, ◌++◌, ◌-◌, ◌*◌, length, filter}
use Rattle.std.specs.Prelude.{is_none, flat_map}
use Rattle.std.specs.List.{range_with_len}
use Rattle.udfs_lattice.specs.Volumes.{first_known}
use Rattle.udfs_volume.specs.Layout.{blocks_in}
use Rattle.udfs_space.specs.Sparing.{copies, piece, unread}
use Rattle.udfs_space.proofs.copies.table_bytes.Given as goal

pub record AreRead (g : goal.Over) (l : goal.Live-loop-k g) : Type 0 where
  pub none : g.B.BlockStore.tells → filter (λ k. is_none (first_known (g.B.BlockStore.states l.blocks) (copies l.map.tables.items k))) (range_with_len l.k (blocks_in l.map.size - l.k))
      ≡ unread (g.B.BlockStore.states l.blocks) l.map.tables.items (blocks_in l.map.size)
  pub rest : g.B.BlockStore.tells → l.bytes.items ++ flat_map (λ k. piece (first_known (g.B.BlockStore.states l.blocks) (copies l.map.tables.items k))) (range_with_len l.k (blocks_in l.map.size - l.k))
      ≡ flat_map (λ k. piece (first_known (g.B.BlockStore.states l.blocks) (copies l.map.tables.items k))) (range_with_len 0 (blocks_in l.map.size))
  pub size : length l.bytes.items ≡ 2048 * l.k

abbrev pub invariant-loop-k : goal.invariant-loop-k
invariant-loop-k g l = AreRead g l
