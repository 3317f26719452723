use Rattle.std.proofs.Common.{◌≡◌, ◌-◌}
use Rattle.std.specs.List.{range_with_len}
use Rattle.udfs_volume.specs.Layout.{blocks_in}
use Rattle.udfs_lawfulness.specs.Searching.{apart_in, copies_apart, first_some}
use Rattle.udfs_lawfulness.proofs.tables.copies_apart.Given as goal

-- what is left decides
abbrev pub invariant-loop-k : goal.invariant-loop-k
invariant-loop-k g l = g.B.BlockStore.tells → first_some (apart_in (g.B.BlockStore.states l.blocks) l.map.size l.map.tables.items) (range_with_len l.k (blocks_in l.map.size - l.k)) ≡ copies_apart (g.B.BlockStore.states l.blocks) l.map.size l.map.tables.items
