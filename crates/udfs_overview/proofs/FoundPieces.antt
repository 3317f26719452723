-- The lines of names that are found, of nodes and entries with and without their blocks and holes.
use Rattle.std.proofs.Common.{◌≡◌, refl, sym, ◌∙◌, ap, Bool, true, not, ◌&&◌, ◌||◌, ℕ, List, [], ◌∷◌, ◌++◌, map, cond}
use Rattle.std.specs.Prelude.{flat_map}
use Rattle.std.specs.List.{list_any}
use Rattle.udfs_space.specs.Places.{View}
use Rattle.udfs_walk.specs.Bare.{full_entry, full_node}
use Rattle.udfs_walk.specs.NodeFields.{NodeFields}
use Rattle.udfs_walk.specs.Targets.{Icb}
use Rattle.udfs_walk.specs.declared.answers.Unnamed.{Unnamed}
use Rattle.udfs_lost.specs.FoundNames.{Found, found_names, full_found, is_found, is_found_among, is_found_at, is_of, torn_folders, unplaced}
use Rattle.udfs_lost.specs.declared.trees.LostTree.{LostTree}
use Rattle.udfs_lost.proofs.PublicLaws.{bare_names_will_do}
use Rattle.udfs_overview.specs.FoundLists.{Names, all_found, folder_found, folders_found, found_lines, full_names, named, tree_found}
use Rattle.udfs_overview.specs.declared.node_list.ListForm.{ListForm}

-- ---- nodes
folders_same : (form : ListForm) (v : View) (two : Bool) (names : Names) (word : List ℕ) (ns : List NodeFields) → flat_map (folder_found form v two names word) ns ≡ flat_map (folder_found form v two names word) (map (full_node v) ns)
folders_same form v two names word [] = refl
folders_same form v two names word (n ∷ ns) = ap (λ l. folder_found form v two names word n ++ l) (folders_same form v two names word ns)

nodes_full : (form : ListForm) (v : View) (two : Bool) (names : Names) (word : List ℕ) (ns : List NodeFields) → folders_found form v two names word ns ≡ folders_found form v two names word (map (full_node v) ns)
nodes_full form v two names word ns = folders_same form v two names word (torn_folders ns) ∙ ap (flat_map (folder_found form v two names word)) (sym (bare_names_will_do v true [] [] ns).folders)

all_full : (form : ListForm) (v : View) (two : Bool) (names : Names) (ns : List NodeFields) (ts : List LostTree) → all_found form v two names ns ts ≡ all_found form v two names (map (full_node v) ns) ts
unfolding all_found
all_full form v two names ns ts = ap (λ l. l ++ flat_map (tree_found form v two names) ts) (nodes_full form v two names [] ns)

pub found_full : (form : ListForm) (deleted : Bool) (v : View) (two : Bool) (ns : List NodeFields) (es : List Unnamed) (ts : List LostTree) → found_lines form deleted v two ns es ts ≡ found_lines form deleted v two (map (full_node v) ns) es ts
unfolding found_lines
found_full form deleted v two ns es ts = ap (cond form.paths []) (all_full form v two (found_names v (unplaced v deleted ts es)) ns ts)

-- ---- entries
pub names_full : (v : View) (deleted : Bool) (ts : List LostTree) (es : List Unnamed) → full_names v (unplaced v deleted ts es) ≡ found_names v (unplaced v deleted ts (map (full_entry v) es))
names_full v deleted ts es = λ i a. sym ((bare_names_will_do v deleted ts es []).names a) i

-- ---- which entries have one
any_full : (v : View) (icb : Icb) (fs : List Found) → list_any (is_of icb) (map (full_found v) fs) ≡ list_any (is_of icb) fs
any_full v icb [] = refl
any_full v icb (f ∷ fs) = ap (λ b. is_of icb f || b) (any_full v icb fs)

module _ (v : View) (deleted : Bool) (ts : List LostTree) (es : List Unnamed) (icb : Icb) where
  at_full : (n : NodeFields) → is_found_at v (unplaced v deleted ts es) icb n ≡ is_found_at v (unplaced v deleted ts (map (full_entry v) es)) icb n
  at_full n = sym (ap (list_any (is_of icb)) ((bare_names_will_do v deleted ts es []).names n.icb) ∙ any_full v icb (found_names v (unplaced v deleted ts es) n.icb))

  among_full : (ns : List NodeFields) → is_found_among v (unplaced v deleted ts es) icb ns ≡ is_found_among v (unplaced v deleted ts (map (full_entry v) es)) icb ns
  among_full ns = ap (λ p. list_any p (torn_folders ns)) (λ i n. at_full n i)

-- with their blocks and holes the same entries have one
pub entries_found : (v : View) (deleted : Bool) (ns : List NodeFields) (ts : List LostTree) (es : List Unnamed) (icb : Icb)
    → is_found v (unplaced v deleted ts es) ns ts icb ≡ is_found v (unplaced v deleted ts (map (full_entry v) es)) ns ts icb
entries_found v deleted ns ts es icb = λ i. among_full v deleted ts es icb ns i || list_any (λ (t : LostTree). among_full v deleted ts es icb t.nodes.items i) ts

nodes_any : (v : View) (us : List Unnamed) (icb : Icb) (ns : List NodeFields) → list_any (is_found_at v us icb) (map (full_node v) ns) ≡ list_any (is_found_at v us icb) ns
nodes_any v us icb [] = refl
nodes_any v us icb (n ∷ ns) = ap (λ b. is_found_at v us icb n || b) (nodes_any v us icb ns)

nodes_found : (v : View) (us : List Unnamed) (icb : Icb) (ns : List NodeFields) → is_found_among v us icb ns ≡ is_found_among v us icb (map (full_node v) ns)
nodes_found v us icb ns = sym (ap (list_any (is_found_at v us icb)) (bare_names_will_do v true [] [] ns).folders ∙ nodes_any v us icb (torn_folders ns))

-- and nodes
pub named_full : (form : ListForm) (deleted : Bool) (v : View) (ns : List NodeFields) (es : List Unnamed) (ts : List LostTree) → named form deleted v ns es ts ≡ named form deleted v (map (full_node v) ns) es ts
named_full form deleted v ns es ts = λ i icb. not form.paths && (nodes_found v (unplaced v deleted ts es) icb ns i || list_any (λ (t : LostTree). is_found_among v (unplaced v deleted ts es) icb t.nodes.items) ts)
