-- What is lost of a volume, seen by what its table knows, is what its report says.
use Rattle.std.proofs.Common.{◌≡◌, ◌∙◌, refl, sym, ap, subst, ℕ, Bool, true, false, List, [], ◌∷◌, ◌++◌, map, Option, Some, None, option_map, cond, append_assoc}
use Rattle.std.specs.Prelude.{find, flat_map}
use Rattle.std.specs.Borrow.{Bor}
use Rattle.udfs_lattice.specs.Volumes.{Blocks}
use Rattle.udfs_tag.specs.declared.layouts.LongAd.{LongAd}
use Rattle.udfs_volume.specs.Answers.{Answer, found, holes, faulty}
use Rattle.udfs_volume.specs.LayoutParts.{parts_now}
use Rattle.udfs_volume.specs.declared.faults.VolumeFault.{VolumeFault}
use Rattle.udfs_space.specs.Places.{View, view}
use Rattle.udfs_walk.specs.Bare.{full_entry, full_node}
use Rattle.udfs_walk.specs.NodeFields.{NodeFields}
use Rattle.udfs_walk.specs.Targets.{Icb, icb_of}
use Rattle.udfs_walk.specs.GivingUp.{IfTold}
use Rattle.udfs_walk.specs.declared.answers.NodesError.{NodesError}
use Rattle.udfs_walk.specs.declared.answers.NodesError.TheVariants as errors
use Rattle.udfs_walk.specs.declared.answers.NodesGaveUp.{NodesGaveUp}
use Rattle.udfs_walk.specs.declared.answers.NodesGaveUp.TheVariants.{OutOfMemory, TooManyPaths, Unread}
use Rattle.udfs_walk.specs.declared.answers.Unnamed.{Unnamed}
use Rattle.udfs_lost.specs.Folders.{AreLostRoots, lost_folders}
use Rattle.udfs_lost.specs.LostFiles.{lost_files}
use Rattle.udfs_lost.specs.PlacedVolumes.{has_two}
use Rattle.udfs_lost.specs.Parents.{parent_at}
use Rattle.udfs_lost.specs.declared.trees.LostTree.{LostTree}
use Rattle.udfs_lost.proofs.PublicLaws.{bare_entries_will_do}
use Rattle.udfs_salvage.specs.Found.{Found, volume_now}
use Rattle.udfs_salvage.specs.Surveys.{full_entries, full_nodes}
use Rattle.udfs_salvage.specs.Texts.{has_two as told_two}
use Rattle.udfs_salvage.specs.declared.surveys.Survey as code_survey
use Rattle.udfs_overview.specs.FoundLists.{found_lines, named}
use Rattle.udfs_overview.specs.FullLists.{lost_and_found, lost_text}
use Rattle.udfs_overview.specs.LostLists.{Named, file_line, folder_at, is_folder_at, lost_lines, lost_word, node_line, place_column, tree_lines}
use Rattle.udfs_overview.proofs.FoundPieces.{found_full, named_full}
use Rattle.udfs_overview.specs.LostTrees.{AreLost, AreLostBy, IsLostOf, IsUnfound, IsUnfoundBy}
use Rattle.udfs_overview.specs.Searched.{Searched, rootless_now, searched_by, searched_of, without_root}
use Rattle.udfs_overview.specs.declared.lost_found.Lost.{Lost}
use Rattle.udfs_overview.specs.declared.lost_found.Rootless.{Rootless}
use Rattle.udfs_overview.specs.declared.node_list.ListForm.{ListForm}

-- ---- places

abbrev path_of : NodeFields → List (List ℕ)
path_of n = n.path

by_test : (b : Bool) (m n : NodeFields) (x y : Option NodeFields) → m.path ≡ n.path → option_map path_of x ≡ option_map path_of y
    → option_map path_of (cond b (Some m) x) ≡ option_map path_of (cond b (Some n) y)
by_test true m n x y same h = ap Some same
by_test false m n x y same h = h

first_full : (v : View) (icb : Icb) (ns : List NodeFields) → option_map path_of (find (is_folder_at v icb) ns) ≡ option_map path_of (find (is_folder_at v icb) (map (full_node v) ns))
first_full v icb [] = refl
first_full v icb (n ∷ ns) = by_test (is_folder_at v icb n) n (full_node v n) (find (is_folder_at v icb) ns) (find (is_folder_at v icb) (map (full_node v) ns)) refl (first_full v icb ns)

pub folder_full : (v : View) (ns : List NodeFields) (o : Option LongAd) → folder_at v ns o ≡ folder_at v (map (full_node v) ns) o
folder_full v ns None = refl
folder_full v ns (Some a) = first_full v (icb_of a) ns

tree_full : (form : ListForm) (v : View) (two : Bool) (named : Named) (ns : List NodeFields) (t : LostTree) → tree_lines form v two named ns t ≡ tree_lines form v two named (map (full_node v) ns) t
unfolding tree_lines
tree_full form v two named ns t = ap (λ place. flat_map (node_line form v (lost_word two t.folder) (place_column form place) (named t.folder)) (map (full_node v) t.nodes.items)) (folder_full v ns (parent_at v t.folder))

-- ---- lines

trees_full : (form : ListForm) (v : View) (two : Bool) (named : Named) (ns : List NodeFields) (trees : List LostTree) → flat_map (tree_lines form v two named ns) trees ≡ flat_map (tree_lines form v two named (map (full_node v) ns)) trees
trees_full form v two named ns [] = refl
trees_full form v two named ns (t ∷ trees) = λ i. tree_full form v two named ns t i ++ trees_full form v two named ns trees i

borrowed : (v : View) (files : List (Bor Unnamed)) → map (λ (file : Bor Unnamed). full_entry v file.now) files ≡ map (full_entry v) (map (λ (file : Bor Unnamed). file.now) files)
borrowed v [] = refl
borrowed v (file ∷ files) = ap (λ l. full_entry v file.now ∷ l) (borrowed v files)

pub files_full : (v : View) (deleted : Bool) (trees : List LostTree) (es : List Unnamed) (files : List (Bor Unnamed)) → map (λ (file : Bor Unnamed). file.now) files ≡ lost_files v deleted trees es
    → map (λ (file : Bor Unnamed). full_entry v file.now) files ≡ lost_files v deleted trees (map (full_entry v) es)
files_full v deleted trees es files are = borrowed v files ∙ ap (map (full_entry v)) are ∙ sym (bare_entries_will_do v deleted trees es).files

-- the lines of trees, and then those of files, are all; `ns`, `es` and `files` are as the code lends them
pub lost_pieces : (form : ListForm) (deleted : Bool) (v : View) (two : Bool) (named : Named) (ns : List NodeFields) (es : List Unnamed) (trees : List LostTree) (files lent : List (Bor Unnamed)) → lent ≡ files
    → map (λ (file : Bor Unnamed). file.now) files ≡ lost_files v deleted trees es
    → flat_map (tree_lines form v two named ns) trees ++ flat_map (file_line form v two named) (map (λ (file : Bor Unnamed). full_entry v file.now) lent)
    ≡ lost_lines form deleted v two named ns (map (full_entry v) es) trees
lost_pieces form deleted v two named ns es trees files lent lent_is are =
    (λ i. flat_map (tree_lines form v two named ns) trees ++ flat_map (file_line form v two named) (map (λ (file : Bor Unnamed). full_entry v file.now) (lent_is i)))
    ∙ (λ i. flat_map (tree_lines form v two named ns) trees ++ flat_map (file_line form v two named) (files_full v deleted trees es files are i))

-- of nodes without their blocks and holes the same is listed
both_full : (form : ListForm) (deleted : Bool) (v : View) (two : Bool) (ns : List NodeFields) (es : List Unnamed) (ts : List LostTree) → lost_and_found form deleted v two ns es ts ≡ lost_and_found form deleted v two (map (full_node v) ns) es ts
both_full form deleted v two ns es ts =
    (λ i. (trees_full form v two (named form deleted v ns es ts) ns ts i ++ flat_map (file_line form v two (named form deleted v ns es ts)) (lost_files v deleted ts es)) ++ found_full form deleted v two ns es ts i)
    ∙ (λ i. lost_lines form deleted v two (named_full form deleted v ns es ts i) (map (full_node v) ns) es ts ++ found_lines form deleted v two (map (full_node v) ns) es ts)

-- where the volume opens, seen by the table
pub lost_seen : (form : ListForm) (deleted : Bool) (M : Blocks) (answer : Answer Found) (f : Found) (v : View) (two : Bool) (ns nodes : List NodeFields) (es entries : List Unnamed) (ts trees : List LostTree) (closed : Option Searched)
    → answer ≡ found f → v ≡ view M f.space → two ≡ told_two answer → ns ≡ nodes → es ≡ entries → ts ≡ trees
    → lost_and_found form deleted v two ns (map (full_entry v) es) ts ≡ lost_text form deleted (searched_by closed M answer (full_entries M answer entries)) (full_nodes M answer nodes) trees
unfolding lost_text
lost_seen form deleted M answer f v two ns nodes es entries ts trees closed opened seen is nodes_are entries_are trees_are =
    both_full form deleted v two ns (map (full_entry v) es) ts
    ∙ (λ i. lost_and_found form deleted (seen i) (same i) (map (full_node (seen i)) (nodes_are i)) (map (full_entry (seen i)) (entries_are i)) (trees_are i))
    ∙ (λ i. lost_text form deleted (searched_by closed M (sym opened i) (full_entries M (sym opened i) entries)) (full_nodes M (sym opened i) nodes) trees)
  where
    same : two ≡ has_two f.layout
    same = is ∙ ap told_two opened

-- where it does not, in what is known of it without its file set
pub rootless_seen : (form : ListForm) (deleted : Bool) (M : Blocks) (known : Option Rootless) (r : Rootless) (v : View) (two : Bool) (ns nodes : List NodeFields) (es : List Unnamed) (ts trees : List LostTree)
    → known ≡ Some r → v ≡ view M r.volume.space → two ≡ has_two (parts_now r.volume.parts) → ns ≡ nodes → es ≡ r.entries.items → ts ≡ trees
    → lost_and_found form deleted v two ns (map (full_entry v) es) ts ≡ lost_text form deleted (option_map (rootless_now M) known) nodes trees
unfolding lost_text
rootless_seen form deleted M known r v two ns nodes es ts trees at seen is nodes_are entries_are trees_are =
    (λ i. lost_and_found form deleted (seen i) (is i) (nodes_are i) (map (full_entry (seen i)) (entries_are i)) (trees_are i))
    ∙ (λ i. lost_text form deleted (option_map (rootless_now M) (sym at i)) nodes trees)

pub holes_seen : (form : ListForm) (deleted : Bool) (M : Blocks) (answer : Answer Found) (listed : List ℕ) (closed : Option Searched) (nodes : List NodeFields) (entries : List Unnamed) (trees : List LostTree) → answer ≡ holes listed
    → lost_text form deleted closed nodes trees ≡ lost_text form deleted (searched_by closed M answer (full_entries M answer entries)) (full_nodes M answer nodes) trees
holes_seen form deleted M answer listed closed nodes entries trees is = λ i. lost_text form deleted (searched_by closed M (sym is i) (full_entries M (sym is i) entries)) (full_nodes M (sym is i) nodes) trees

pub faulty_seen : (form : ListForm) (deleted : Bool) (M : Blocks) (answer : Answer Found) (fault : VolumeFault) (closed : Option Searched) (nodes : List NodeFields) (entries : List Unnamed) (trees : List LostTree) → answer ≡ faulty fault
    → lost_text form deleted closed nodes trees ≡ lost_text form deleted (searched_by closed M answer (full_entries M answer entries)) (full_nodes M answer nodes) trees
faulty_seen form deleted M answer fault closed nodes entries trees is = λ i. lost_text form deleted (searched_by closed M (sym is i) (full_entries M (sym is i) entries)) (full_nodes M (sym is i) nodes) trees

-- ---- trees

-- of entries without their lists the same are lost as of those with them
pub full_lost : (v w : View) (deleted : Bool) (es entries : List Unnamed) (trees : List LostTree) → v ≡ w → es ≡ entries → AreLost v deleted es trees → AreLost w deleted (map (full_entry w) entries) trees
full_lost v w deleted es entries trees seen are a =
    subst (λ z. AreLost z deleted (map (full_entry z) entries) trees) seen (subst (λ l. AreLost v deleted (map (full_entry v) l) trees) are (record {
      roots = a.roots;
      are_roots = subst (λ folders. AreLostRoots v folders a.roots) (sym (bare_entries_will_do v deleted trees es).folders) a.are_roots;
      are_trees = a.are_trees;
    }))

pub full_unfound : (v w : View) (deleted : Bool) (es entries : List Unnamed) (error : NodesError) → v ≡ w → es ≡ entries → IsUnfound v (lost_folders v deleted es) error → IsUnfound w (lost_folders w deleted (map (full_entry w) entries)) error
full_unfound v w deleted es entries error seen are a =
    subst (λ z. IsUnfound z (lost_folders z deleted (map (full_entry z) entries)) error) seen
    (subst (λ l. IsUnfound v (lost_folders v deleted (map (full_entry v) l)) error) are (subst (λ folders. IsUnfound v folders error) (sym (bare_entries_will_do v deleted [] es).folders) a))

-- where a volume that opens is looked through
pub opened_place : (M : Blocks) (answer : Answer Found) (f : Found) (entries : List Unnamed) (closed : Option Searched) → answer ≡ found f
    → searched_by closed M answer (full_entries M answer entries) ≡ Some (record { view = view M f.space; two = has_two f.layout; entries = map (full_entry (view M f.space)) entries })
opened_place M answer f entries closed opened = λ i. searched_by closed M (opened i) (full_entries M (opened i) entries)

pub opened_lost : (deleted : Bool) {B : Type 0} (states : B → Blocks) (s : code_survey.Survey B) (f : Found) (v : View) (es : List Unnamed) (lost : Lost) → volume_now s.volume ≡ found f → v ≡ view (states s.table.now) f.space → es ≡ s.unnamed.items
    → AreLost v deleted es lost.trees.items → IsLostOf states deleted s lost
opened_lost deleted states s f v es lost opened seen are a = record {
  place = place (option_map (rootless_now (states s.table.now)) lost.rootless) ∙ sym (place (without_root s.profile (states s.table.now) s.last));
  trees = subst (λ o. AreLostBy deleted o lost.trees.items) (sym (place (without_root s.profile (states s.table.now) s.last))) (full_lost v (view (states s.table.now) f.space) deleted es s.unnamed.items lost.trees.items seen are a);
}
  where
    place : (closed : Option Searched) → searched_by closed (states s.table.now) (volume_now s.volume) (full_entries (states s.table.now) (volume_now s.volume) s.unnamed.items)
        ≡ Some (record { view = view (states s.table.now) f.space; two = has_two f.layout; entries = map (full_entry (view (states s.table.now) f.space)) s.unnamed.items })
    place closed = opened_place (states s.table.now) (volume_now s.volume) f s.unnamed.items closed opened

pub opened_unfound : (deleted : Bool) {B : Type 0} (states : B → Blocks) (s : code_survey.Survey B) (f : Found) (v : View) (es : List Unnamed) (error : NodesError) → volume_now s.volume ≡ found f → v ≡ view (states s.table.now) f.space → es ≡ s.unnamed.items
    → IsUnfound v (lost_folders v deleted es) error → IsUnfoundBy deleted (searched_of states s) error
opened_unfound deleted states s f v es error opened seen are a =
    subst (λ o. IsUnfoundBy deleted o error) (sym (opened_place (states s.table.now) (volume_now s.volume) f s.unnamed.items (without_root s.profile (states s.table.now) s.last) opened))
    (full_unfound v (view (states s.table.now) f.space) deleted es s.unnamed.items error seen are a)

-- a volume that does not open is looked through in what is known of it without its file set
abbrev pub IsClosed : {B : Type 0} → (B → Blocks) → code_survey.Survey B → Type 0
IsClosed states s = (closed : Option Searched) → searched_by closed (states s.table.now) (volume_now s.volume) (full_entries (states s.table.now) (volume_now s.volume) s.unnamed.items) ≡ closed

pub holes_closed : {B : Type 0} (states : B → Blocks) (s : code_survey.Survey B) (listed : List ℕ) → volume_now s.volume ≡ holes listed → IsClosed states s
holes_closed states s listed is closed = λ i. searched_by closed (states s.table.now) (is i) (full_entries (states s.table.now) (is i) s.unnamed.items)

pub faulty_closed : {B : Type 0} (states : B → Blocks) (s : code_survey.Survey B) (fault : VolumeFault) → volume_now s.volume ≡ faulty fault → IsClosed states s
faulty_closed states s fault is closed = λ i. searched_by closed (states s.table.now) (is i) (full_entries (states s.table.now) (is i) s.unnamed.items)

pub closed_lost : (deleted : Bool) {B : Type 0} (states : B → Blocks) (s : code_survey.Survey B) (lost : Lost) → IsClosed states s → option_map (rootless_now (states s.table.now)) lost.rootless ≡ without_root s.profile (states s.table.now) s.last
    → AreLostBy deleted (without_root s.profile (states s.table.now) s.last) lost.trees.items → IsLostOf states deleted s lost
closed_lost deleted states s lost is at are = record {
  place = is (option_map (rootless_now (states s.table.now)) lost.rootless) ∙ at ∙ sym (is (without_root s.profile (states s.table.now) s.last));
  trees = subst (λ o. AreLostBy deleted o lost.trees.items) (sym (is (without_root s.profile (states s.table.now) s.last))) are;
}

pub closed_unfound : (deleted : Bool) {B : Type 0} (states : B → Blocks) (s : code_survey.Survey B) (error : NodesError) → IsClosed states s → IsUnfoundBy deleted (without_root s.profile (states s.table.now) s.last) error → IsUnfoundBy deleted (searched_of states s) error
closed_unfound deleted states s error is a = subst (λ o. IsUnfoundBy deleted o error) (sym (is (without_root s.profile (states s.table.now) s.last))) a

-- what holds of why they were not found, by any store
pub if_told : (P Q : NodesError → Type 0) → ((e : NodesError) → P e → Q e) → (e : NodesGaveUp) → IfTold P e → IfTold Q e
if_told P Q by TooManyPaths h = by errors.TooManyPaths h
if_told P Q by OutOfMemory h = by errors.OutOfMemory h
if_told P Q by Unread h = tt
