-- What is lost of a volume, seen by what its store knows, is what its report says.
use Rattle.std.proofs.Common.{◌≡◌, ◌∙◌, refl, sym, ap, ℕ, Bool, false, List, [], ◌∷◌, ◌++◌, map, Option, Some, option_map}
use Rattle.std.specs.Prelude.{flat_map}
use Rattle.std.specs.Borrow.{Bor}
use Rattle.udfs_lattice.specs.Volumes.{Blocks}
use Rattle.udfs_volume.specs.Answers.{Answer, found, holes, faulty}
use Rattle.udfs_volume.specs.LayoutParts.{parts_now}
use Rattle.udfs_volume.specs.declared.faults.VolumeFault.{VolumeFault}
use Rattle.udfs_space.specs.Places.{View, view}
use Rattle.udfs_walk.specs.Bare.{full_entry, full_node}
use Rattle.udfs_walk.specs.NodeBodies.{has_tail}
use Rattle.udfs_walk.specs.NodeFields.{NodeFields}
use Rattle.udfs_walk.specs.declared.answers.Unnamed.{Unnamed}
use Rattle.udfs_lost.specs.LostFiles.{lost_files}
use Rattle.udfs_lost.specs.Parents.{parent_at}
use Rattle.udfs_lost.specs.PlacedVolumes.{has_two}
use Rattle.udfs_lost.specs.declared.trees.LostTree.{LostTree}
use Rattle.udfs_salvage.specs.Found.{Found}
use Rattle.udfs_salvage.specs.Surveys.{full_entries, full_nodes}
use Rattle.udfs_salvage.specs.Texts.{has_two as told_two}
use Rattle.udfs_overview.specs.LostLists.{place_of}
use Rattle.udfs_overview.specs.Searched.{Searched, rootless_now, searched_by}
use Rattle.udfs_overview.specs.declared.lost_found.Rootless.{Rootless}
use Rattle.udfs_overview.proofs.LostPieces.{files_full, folder_full}
use Rattle.udfs_page.proofs.InsideLemmas.{counts_same}
use Rattle.udfs_page.specs.Insides.{inside_of}
use Rattle.udfs_page.specs.LostSections.{lost_files_html, lost_from, lost_in, lost_tree_html, root_end, root_html, rooted_html}
use Rattle.udfs_page.specs.Trees.{nodes_html}

-- a lost tree has its nodes, the folder first
pub rooted : (v : View) (two : Bool) (ns : List NodeFields) (t : LostTree) (n : NodeFields) (inside : List NodeFields) → t.nodes.items ≡ n ∷ inside
    → root_html (has_tail v n.icb) two (place_of v ns t.folder) t.folder (full_node v n) (inside_of inside) ++ nodes_html v (map (full_node v) inside) ++ root_end (map (full_node v) inside) ≡ lost_tree_html v two ns t
unfolding lost_tree_html rooted_html
rooted v two ns t n inside are =
    (λ i. root_html (has_tail v n.icb) two (place_of v ns t.folder) t.folder (full_node v n) (counts_same v inside i) ++ nodes_html v (map (full_node v) inside) ++ root_end (map (full_node v) inside))
    ∙ ap (λ l. rooted_html v two (place_of v ns t.folder) t.folder (map (full_node v) l)) (sym are)

pub unrooted : (v : View) (two : Bool) (ns : List NodeFields) (t : LostTree) → t.nodes.items ≡ [] → [] ≡ lost_tree_html v two ns t
unfolding lost_tree_html rooted_html
unrooted v two ns t none = ap (λ l. rooted_html v two (place_of v ns t.folder) t.folder (map (full_node v) l)) (sym none)

-- its place is that among the nodes with their blocks and holes
tree_seen : (v : View) (two : Bool) (ns : List NodeFields) (t : LostTree) → lost_tree_html v two ns t ≡ lost_tree_html v two (map (full_node v) ns) t
unfolding lost_tree_html
tree_seen v two ns t = ap (λ place. rooted_html v two place t.folder (map (full_node v) t.nodes.items)) (folder_full v ns (parent_at v t.folder))

trees_seen : (v : View) (two : Bool) (ns : List NodeFields) (ts : List LostTree) → flat_map (lost_tree_html v two ns) ts ≡ flat_map (lost_tree_html v two (map (full_node v) ns)) ts
trees_seen v two ns [] = refl
trees_seen v two ns (t ∷ ts) = λ i. tree_seen v two ns t i ++ trees_seen v two ns ts i

-- the lost files, lent
pub files_seen : (v : View) (two : Bool) (trees : List LostTree) (es : List Unnamed) (files lent : List (Bor Unnamed)) → lent ≡ files → map (λ (file : Bor Unnamed). file.now) files ≡ lost_files v false trees es
    → lost_files_html v two (map (λ (file : Bor Unnamed). full_entry v file.now) lent) ≡ lost_files_html v two (lost_files v false trees (map (full_entry v) es))
files_seen v two trees es files lent is are = ap (lost_files_html v two) (ap (map (λ (file : Bor Unnamed). full_entry v file.now)) is ∙ files_full v false trees es files are)

-- where the volume opens
pub lost_seen : (M : Blocks) (answer : Answer Found) (f : Found) (v : View) (two : Bool) (ns nodes : List NodeFields) (es entries : List Unnamed) (ts trees : List LostTree) (closed : Option Searched)
    → answer ≡ found f → v ≡ view M f.space → two ≡ told_two answer → ns ≡ nodes → es ≡ entries → ts ≡ trees
    → lost_in v two ns (map (full_entry v) es) ts ≡ lost_from (searched_by closed M answer (full_entries M answer entries)) (full_nodes M answer nodes) trees
unfolding lost_from
lost_seen M answer f v two ns nodes es entries ts trees closed opened seen is nodes_are entries_are trees_are =
    (λ i. trees_seen v two ns ts i ++ lost_files_html v two (lost_files v false ts (map (full_entry v) es)))
    ∙ (λ i. lost_in (seen i) (same i) (map (full_node (seen i)) (nodes_are i)) (map (full_entry (seen i)) (entries_are i)) (trees_are i))
    ∙ (λ i. lost_from (searched_by closed M (sym opened i) (full_entries M (sym opened i) entries)) (full_nodes M (sym opened i) nodes) trees)
  where
    same : two ≡ has_two f.layout
    same = is ∙ ap told_two opened

-- where it does not, in what is known of it without its file set
pub rootless_seen : (M : Blocks) (known : Option Rootless) (r : Rootless) (v : View) (two : Bool) (ns nodes : List NodeFields) (es : List Unnamed) (ts trees : List LostTree)
    → known ≡ Some r → v ≡ view M r.volume.space → two ≡ has_two (parts_now r.volume.parts) → ns ≡ nodes → es ≡ r.entries.items → ts ≡ trees
    → lost_in v two ns (map (full_entry v) es) ts ≡ lost_from (option_map (rootless_now M) known) nodes trees
unfolding lost_from
rootless_seen M known r v two ns nodes es ts trees at seen is nodes_are entries_are trees_are =
    (λ i. lost_in (seen i) (is i) (nodes_are i) (map (full_entry (seen i)) (entries_are i)) (trees_are i))
    ∙ (λ i. lost_from (option_map (rootless_now M) (sym at i)) nodes trees)

pub holes_seen : (M : Blocks) (answer : Answer Found) (listed : List ℕ) (closed : Option Searched) (nodes : List NodeFields) (entries : List Unnamed) (trees : List LostTree) → answer ≡ holes listed
    → lost_from closed nodes trees ≡ lost_from (searched_by closed M answer (full_entries M answer entries)) (full_nodes M answer nodes) trees
holes_seen M answer listed closed nodes entries trees is = λ i. lost_from (searched_by closed M (sym is i) (full_entries M (sym is i) entries)) (full_nodes M (sym is i) nodes) trees

pub faulty_seen : (M : Blocks) (answer : Answer Found) (fault : VolumeFault) (closed : Option Searched) (nodes : List NodeFields) (entries : List Unnamed) (trees : List LostTree) → answer ≡ faulty fault
    → lost_from closed nodes trees ≡ lost_from (searched_by closed M answer (full_entries M answer entries)) (full_nodes M answer nodes) trees
faulty_seen M answer fault closed nodes entries trees is = λ i. lost_from (searched_by closed M (sym is i) (full_entries M (sym is i) entries)) (full_nodes M (sym is i) nodes) trees
