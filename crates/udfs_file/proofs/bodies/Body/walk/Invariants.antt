use Rattle.std.proofs.Common.{◌≡◌, ◌+◌, ◌-◌, ◌*◌, ◌<◌, ◌≤◌, length}
use Rattle.udfs_space.specs.Places.{View}
use Rattle.udfs_space.specs.Views.{view_by}
use Rattle.udfs_file.specs.Bodies.{listed_body}
use Rattle.udfs_file.specs.Stretches.{LieInBlocks, cells_of}
use Rattle.udfs_file.proofs.BlockLemmas.{AllFill}
use Rattle.udfs_file.proofs.WalkLemmas.{IsWalk}
use Rattle.udfs_file.proofs.bodies.Body.walk.Given as goal

abbrev pub invariant-walk : goal.invariant-walk
invariant-walk g l = record {
  walk : g.B.BlockStore.tells → IsWalk l.tail (view_by g.B.BlockStore.states l.view) l.size l.form l.reference
      (listed_body l.tail (view_by g.B.BlockStore.states l.view) l.form l.reference l.size l.fn.area)
      l.left l.c l.area l.i l.stretches.items;
  count : (v : View) → length (cells_of v l.stretches.items) ≡ l.c;
  area_fits : length l.area ≤ 2048;
  within : l.c ≤ l.size;
  fill : l.c < l.size → AllFill l.stretches.items;
  lie : LieInBlocks l.stretches.items;
}

abbrev pub decreases-walk : goal.decreases-walk
decreases-walk g l = l.left * 2049 + (length l.area - l.i)
