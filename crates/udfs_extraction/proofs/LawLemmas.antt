-- The laws of what is written.
use Rattle.std.proofs.Common.{Bool, refl, sym, ◌∙◌, subst, inl, inr, List, [], ◌∷◌, ◌++◌, map}
use Rattle.std.specs.List.{AllZip}
use Rattle.std.specs.Prelude.{Contains}
use Rattle.udfs_lattice.proofs.Inclusion.{Includes, included}
use Rattle.udfs_lattice.specs.Tables.{state_of}
use Rattle.udfs_space.specs.Places.{View, view}
use Rattle.udfs_walk.specs.Bare.{full_node}
use Rattle.udfs_walk.specs.Targets.{Icb}
use Rattle.udfs_walk.specs.UnnamedEntries.{address_of}
use Rattle.udfs_walk.specs.Walks.{AreNodes}
use Rattle.udfs_walk.specs.declared.answers.Unnamed.{Unnamed}
use Rattle.udfs_lost.specs.LostTrees.{IsLostTree}
use Rattle.udfs_lost.specs.declared.trees.LostTree.{LostTree}
use Rattle.udfs_lost.proofs.PublicLaws.{lost_trees_tell}
use Rattle.udfs_salvage.specs.Reports.{ReportsBy, ReportsNodes}
use Rattle.udfs_extraction.specs.LostTrees.{AreLostIn}
use Rattle.udfs_extraction.specs.Laws.{LostTreesAreTheVolumes, LostTreesAreWalked, ReportsAreWalked}

-- what is in the second list stands beside something of the first
beside_one : (v : View) (icbs : List Icb) (trees : List LostTree) (tree : LostTree) → AllZip (IsLostTree v) icbs trees → Includes trees tree → IsLostTree v tree.folder tree
beside_one v [] [] tree zip i = absurd i
beside_one v [] (t ∷ trees) tree zip i = absurd zip
beside_one v (icb ∷ icbs) [] tree zip i = absurd i
beside_one v (icb ∷ icbs) (t ∷ trees) tree zip (inl same) = subst (λ (x : LostTree). IsLostTree v x.folder x) same (subst (λ (k : Icb). IsLostTree v k t) (sym zip.0.folder) zip.0)
beside_one v (icb ∷ icbs) (t ∷ trees) tree zip (inr i) = beside_one v icbs trees tree zip.1 i

beside_both : (v : View) (icbs others : List Icb) (trees more : List LostTree) (tree : LostTree) → AllZip (IsLostTree v) icbs trees → AllZip (IsLostTree v) others more → Includes (trees ++ more) tree → IsLostTree v tree.folder tree
beside_both v icbs others [] more tree one two i = beside_one v others more tree two i
beside_both v [] others (t ∷ trees) more tree one two i = absurd one
beside_both v (icb ∷ icbs) others (t ∷ trees) more tree one two (inl same) = subst (λ (x : LostTree). IsLostTree v x.folder x) same (subst (λ (k : Icb). IsLostTree v k t) (sym one.0.folder) one.0)
beside_both v (icb ∷ icbs) others (t ∷ trees) more tree one two (inr i) = beside_both v icbs others trees more tree one.1 two i

-- each of the trees is that of its folder, or of its file
one_of : (v : View) (deleted : Bool) (entries : List Unnamed) (trees : List LostTree) → AreLostIn v deleted entries trees → (tree : LostTree) → Contains trees tree → IsLostTree v tree.folder tree
one_of v deleted entries trees lost tree is =
    beside_both v _ _ lost.folders lost.are_files.more tree lost.are_folders.are_trees.each lost.are_files.each (included _ tree (subst (λ (ts : List LostTree). Contains ts tree) lost.are_files.are is))

pub lost_trees_are_walked : LostTreesAreWalked
lost_trees_are_walked table f deleted entries trees lost tree is = record { opens = refl; nodes_are = (one_of (view (state_of table) f.space) deleted entries trees lost tree is).nodes }

pub lost_trees_are_the_volumes : LostTreesAreTheVolumes
lost_trees_are_the_volumes all blocks c has root l path icb f some part deleted entries trees lost tree is folder =
    lost_trees_tell all blocks c has root l path icb f some part (map (full_node some) tree.nodes.items)
    (subst (λ (k : Icb). AreNodes some (address_of k) (map (full_node some) tree.nodes.items)) folder (one_of some deleted entries trees lost tree is).nodes)

pub reports_are_walked : ReportsAreWalked
reports_are_walked profile blocks last report f is opens = record {
  nodes = record { opens = opens; nodes_are = listed.nodes_are };
  cells = λ index cs has. record { opened = f; opens = sym is.volume_is ∙ opens; has_cells = has };
}
  where
    listed : ReportsNodes blocks f report
    listed = subst (λ o. ReportsBy blocks o report) opens is.by_volume
