use Rattle.std.proofs.Common.{◌≡◌, ◌++◌, ◌+◌, ◌-◌, ◌*◌, ℕ, List, length}
use Rattle.udfs_lattice.specs.Volumes.{Blocks}
use Rattle.std.specs.Prelude.{flat_map}
use Rattle.std.specs.List.{list_all, range_with_len}
use Rattle.udfs_lattice.specs.States.{is_known}
use Rattle.udfs_volume.specs.Layout.{blocks_in}
use Rattle.udfs_lawfulness.specs.Tables.{is_known_copy, known_bytes}
use Rattle.udfs_lawfulness.proofs.tables.copy_bytes.Given as goal

-- the bytes so far with those of the blocks that are left are all, and what is left decides
pub record AreRead (M : Blocks) (size place k : ℕ) (bytes : List ℕ) : Type 0 where
  pub known : list_all (λ k. is_known (M (place + k))) (range_with_len k (blocks_in size - k)) ≡ is_known_copy M size place
  pub rest : bytes ++ flat_map (λ k. known_bytes (M (place + k))) (range_with_len k (blocks_in size - k))
      ≡ flat_map (λ k. known_bytes (M (place + k))) (range_with_len 0 (blocks_in size))

abbrev pub invariant-loop-k : goal.invariant-loop-k
invariant-loop-k g l = record {
  read : g.B.BlockStore.tells → AreRead (g.B.BlockStore.states l.blocks) l.size l.place l.k l.bytes.items;
  size : length l.bytes.items ≡ 2048 * l.k;
}
