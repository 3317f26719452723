use Rattle.udfs_space.specs.Sparing.{is_whole_copy, table_number}
use Rattle.udfs_space.proofs.Ranks.{best-all}
use Rattle.udfs_space.proofs.newest.newest.Goals as goal

pub loop-place-init : goal.loop-place-init
loop-place-init g c = record {
  number = λ told. tt;
  rest = λ told. best-all (table_number (g.B.BlockStore.states c.args.blocks.now) c.args.map.now.size) (is_whole_copy (g.B.BlockStore.states c.args.blocks.now) c.args.map.now.size) c.args.map.now.tables.items;
  fits = tt;
}
