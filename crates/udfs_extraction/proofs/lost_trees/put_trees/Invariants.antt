-- The trees so far are made, and have their lines; what was written stays.
use Rattle.std.proofs.Common.{◌≡◌, ◌+◌, List, drop, length, true}
use Rattle.std.specs.List.{list_all}
use Rattle.udfs_salvage.specs.Found.{volume_now}
use Rattle.udfs_extraction.specs.Extracting.{TellsLines}
use Rattle.udfs_extraction.specs.LostFiles.{SparesLost}
use Rattle.udfs_extraction.specs.LostTrees.{EachTree, IsAllOf, IsTreePut, TreePut, is_put_well, tree_lines, trees_lines}
use Rattle.udfs_extraction.proofs.lost_trees.put_trees.Given as goal

abbrev pub invariant-loop-tree : goal.invariant-loop-tree
invariant-loop-tree g l =
    let F = g.F.Files in
    let S = g.O.Sink in
    record {
      same : (l.current.volume ≡ l.fn.listing.volume) × (l.current.table ≡ l.fn.listing.table);
      put : g.B.BlockStore.tells → (all : List TreePut) × EachTree (IsAllOf (IsTreePut F g.F.Output.Sink.stream l.files (g.B.BlockStore.states l.fn.listing.table.now) (volume_now l.fn.listing.volume) l.short l.folder l.names)) l.fn.trees.items all ×
          TellsLines true (S.stream l.initial.out) (S.stream l.out) (trees_lines (tree_lines (g.B.BlockStore.states l.fn.listing.table.now) (volume_now l.fn.listing.volume) l.short) l.fn.trees.items all) ×
          (length all + l.tree-iterator.rest.len ≡ length l.fn.trees.items) × (l.tree-iterator.rest.items ≡ drop (length all) l.fn.trees.items) × (l.good ≡ list_all is_put_well all);
      spares : SparesLost F l.folder l.initial.files l.files;
    }
