use Rattle.std.proofs.Common.{arith}
use Rattle.udfs_space.specs.Views.{view_by}
use Rattle.udfs_walk.proofs.bare.entry_lists.Goals as goal

-- the body has as many cells as the entry says, whatever is known of the blocks
pub cells_standing-requires : goal.cells_standing-requires
cells_standing-requires g c = let n = rw c.in-Ok.is at c.in_ok-read_by.ensures.size in let m = n (view_by g.B.BlockStore.states c.args.view) in omega (arith, m, c.size-size.ensures, c.size-size.type_inv)
