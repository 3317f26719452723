use Rattle.std.proofs.Common.{◌≡◌, drop}
use Rattle.udfs_volume.specs.Layout.{blocks_in}
use Rattle.udfs_space.specs.Parts.{CopyFits, HasNumber, begins}
use Rattle.udfs_space.specs.Sparing.{is_whole_copy, newest, table_number}
use Rattle.udfs_space.proofs.Ranks.{best_kept}
use Rattle.udfs_space.proofs.newest.newest.Given as goal

-- what is best so far and what is left decide
pub record IsBest (g : goal.Over) (l : goal.Live-loop-place g) : Type 0 where
  pub number : g.B.BlockStore.tells → HasNumber (g.B.BlockStore.states l.blocks) l.map.size l.best
  pub rest : g.B.BlockStore.tells → best_kept (table_number (g.B.BlockStore.states l.blocks) l.map.size) (is_whole_copy (g.B.BlockStore.states l.blocks) l.map.size) (begins l.best) (drop l.place-index l.map.tables.items)
      ≡ newest (g.B.BlockStore.states l.blocks) l.map.size l.map.tables.items
  pub fits : CopyFits (blocks_in l.map.size) l.best

abbrev pub invariant-loop-place : goal.invariant-loop-place
invariant-loop-place g l = IsBest g l
