-- The laws of this crate that proofs above it use. Each has the statement that the function of its name in src/laws.rt ensures.
use Rattle.std.proofs.Common.{◌≡◌, refl, ℕ, List, Some, slice_get}
use Rattle.udfs_tag.specs.declared.layouts.LongAd.{LongAd}
use Rattle.udfs_space.specs.Places.{View, IsPartOf}
use Rattle.udfs_file.specs.Complete.{HasPartitions, IsComplete}
use Rattle.udfs_file.specs.declared.cells.Cell.{Cell}
use Rattle.udfs_walk.specs.NodeFields.{NodeFields}
use Rattle.udfs_walk.specs.Targets.{Icb}
use Rattle.udfs_walk.specs.UnnamedEntries.{address_of}
use Rattle.udfs_walk.specs.Walks.{AreNodes}
use Rattle.udfs_walk.specs.Cells.{HasCellsAt, IsWholeAs}
use Rattle.udfs_walk.specs.TreeLaws.{IsNodeOf}
use Rattle.udfs_walk.specs.Lawful.{IsLawfulTree}
use Rattle.udfs_walk.specs.Needs.{IsMet}
use Rattle.udfs_walk.specs.Sound.{IsSoundTree, Path}
use Rattle.udfs_walk.specs.Trees.{PartitionBlocks}
use Rattle.udfs_walk.proofs.TreePublicLaws.{fewer_routes, once_per_path, partial_nodes, sound_is_lawful}
use Rattle.udfs_walk.proofs.Wanted.{met_is_whole}
use Rattle.udfs_walk.specs.Bare.{full_entry}
use Rattle.udfs_lost.specs.Folders.{icb_of_entry, is_lost_folder}
use Rattle.udfs_lost.specs.LostFiles.{BareEntriesWillDo, is_lost_file}
use Rattle.udfs_lost.specs.FoundNames.{BareNamesWillDo}
use Rattle.udfs_lost.proofs.Kept.{kept_alike, passes_alike}
use Rattle.udfs_lost.proofs.FoundLemmas.{folders_alike, names_alike}
use Rattle.udfs_lost.specs.Subtrees.{IsFolderAt, IsNodeBelow, IsWholeBelow, LostTreesFit, LostTreesReach, LostTreesTell, NeededBelow, SubtreeIsBelow, SubtreeIsLawful}
use Rattle.udfs_lost.proofs.ReachLemmas.{reached}
use Rattle.udfs_lost.proofs.FolderTrees.{folder_is_sound, in_part, in_whole, needed}

sound : (all : View) (blocks : PartitionBlocks) → IsComplete all blocks → HasPartitions all → (root : LongAd) → IsLawfulTree all root → IsSoundTree blocks root
sound all blocks c has root l = (sound_is_lawful all blocks c has root).1 l

pub subtree_is_lawful : SubtreeIsLawful
subtree_is_lawful all blocks c has root l path icb f = (sound_is_lawful all blocks c has (address_of icb)).0 (folder_is_sound blocks root path icb f (sound all blocks c has root l))

pub subtree_is_below : SubtreeIsBelow
subtree_is_below all blocks c has root l path icb f more file = (in_whole blocks root path icb f more file, in_part all blocks c has root path icb f (sound all blocks c has root l) more file)

pub needed_below : NeededBelow
needed_below all blocks c has root l path icb f more group x = needed all blocks root path icb f more group x

node_below : (some all : View) (blocks : PartitionBlocks) → IsPartOf some all → IsComplete all blocks → (root : LongAd) (path : Path) (icb : Icb) → IsFolderAt blocks root path icb
    → IsLawfulTree all (address_of icb) → (nodes : List NodeFields) → AreNodes some (address_of icb) nodes → (index : ℕ) (n : NodeFields) → slice_get nodes index ≡ Some n
    → IsNodeBelow some all blocks root path icb index n
node_below some all blocks part c root path icb f l nodes are index n at = record {
  file = x.file;
  in_tree = in_whole blocks root path icb f n.path x.file x.in_tree;
  no_fault = x.no_fault;
  told = x.told;
  whole = λ e. whole (x.whole e);
}
  where
    x : IsNodeOf some all blocks (address_of icb) index n
    x = partial_nodes some all blocks part c (address_of icb) l nodes are index n at

    whole : ((cs : List Cell) × HasCellsAt some (address_of icb) index cs × IsWholeAs some.profile n x.file cs) × IsMet some all blocks (address_of icb) n.path
        → IsWholeBelow some all blocks icb index n x.file
    whole (w, met) = record { cs = w.0; has_cells = w.1; is_whole = w.2; met = met }

pub lost_trees_tell : LostTreesTell
lost_trees_tell all blocks c has root l path icb f some part nodes are = let below : IsLawfulTree all (address_of icb) = subtree_is_lawful all blocks c has root l path icb f in record {
  each = node_below some all blocks part c root path icb f below nodes are;
  once = once_per_path some all blocks part c (address_of icb) below nodes are;
  met = λ more file i m. met_is_whole some all blocks part c (address_of icb) below nodes are more file ((subtree_is_below all blocks c has root l path icb f more file).1 i) m;
}

pub lost_trees_fit : LostTreesFit
lost_trees_fit all blocks c has root l path icb f some part more = let below : IsLawfulTree all (address_of icb) = subtree_is_lawful all blocks c has root l path icb f in
    below.limit (fewer_routes some all blocks part c (address_of icb) below 65536 more)

pub lost_trees_reach : LostTreesReach
lost_trees_reach all blocks c has root l path icb f some part nodes are g t = let below : IsLawfulTree all (address_of icb) = subtree_is_lawful all blocks c has root l path icb f in
    reached some icb nodes are (λ i n at. (partial_nodes some all blocks part c (address_of icb) below nodes are i n at).no_fault) g t

pub bare_entries_will_do : BareEntriesWillDo
bare_entries_will_do view deleted trees entries = record {
  folders = kept_alike icb_of_entry (is_lost_folder view deleted) (full_entry view) (λ u. refl) (λ u. refl) entries;
  files = passes_alike (is_lost_file view deleted trees) (full_entry view) (λ u. refl) entries;
}

pub bare_names_will_do : BareNamesWillDo
bare_names_will_do view deleted trees entries nodes = record {
  folders = folders_alike view nodes;
  names = names_alike view deleted trees entries;
}
