use Rattle.std.proofs.Common.{◌≡◌, drop}
use Rattle.std.specs.Prelude.{find}
use Rattle.udfs_lawfulness.specs.Tables.{is_untagged}
use Rattle.udfs_lawfulness.proofs.tables.untagged.Given as goal

-- what is left decides
abbrev pub invariant-loop-place : goal.invariant-loop-place
invariant-loop-place g l = g.B.BlockStore.tells → find (is_untagged (g.B.BlockStore.states l.blocks) l.map.size) (drop l.place-index l.map.tables.items) ≡ find (is_untagged (g.B.BlockStore.states l.blocks) l.map.size) l.map.tables.items
