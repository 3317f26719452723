use Rattle.std.proofs.Common.{◌≡◌, ◌≤◌, [], length}
use Rattle.std.specs.Prelude.{filter_map, fold}
use Rattle.udfs_space.specs.Views.{view_by}
use Rattle.udfs_file.specs.FoundNames.{entries_in}
use Rattle.udfs_lost.specs.FoundNames.{found_of, with_name}
use Rattle.udfs_lost.proofs.names_behind.names_in.Given as goal

-- those so far, and those of the rest, are all; no more than are told
abbrev pub invariant-names : goal.invariant-names
invariant-names g l = record {
  all : g.B.BlockStore.tells → fold with_name l.told (filter_map (found_of (view_by g.B.BlockStore.states l.view) l.lost) (entries_in l.names)) ≡ fold with_name [] (filter_map (found_of (view_by g.B.BlockStore.states l.view) l.lost) (entries_in l.fn.names));
  few : length l.told ≤ 65536;
}

abbrev pub decreases-names : goal.decreases-names
decreases-names g l = length l.names
