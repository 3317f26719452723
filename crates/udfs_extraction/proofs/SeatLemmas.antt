-- How names that are found are gathered, and the way to one is made.
use Rattle.std.proofs.Common.{◌≡◌, ◌∙◌, ◌<◌, inl, inr, sym, subst, ⊎_elim, ℕ, Bool, Bor, List, [], ◌∷◌, ◌++◌, Option, Some, None, get_or, length, map}
use Rattle.std.specs.Prelude.{Contains}
use Rattle.std.proofs.lemmas.List.Elements.{Contains-push_cases}
use Rattle.udfs_host_fs.specs.Disk.{Disk, Goes, Same}
use Rattle.udfs_lattice.specs.Volumes.{Blocks}
use Rattle.udfs_lattice.proofs.Inclusion.{contained, in_nothing, included}
use Rattle.udfs_volume.specs.Answers.{Answer, found}
use Rattle.udfs_space.specs.Places.{View, view}
use Rattle.udfs_walk.specs.Bare.{full_entry, full_node}
use Rattle.udfs_walk.specs.NodeFields.{NodeFields}
use Rattle.udfs_walk.specs.Targets.{Icb}
use Rattle.udfs_walk.specs.declared.answers.Unnamed.{Unnamed}
use Rattle.udfs_lost.specs.Folders.{AreLostRoots}
use Rattle.udfs_lost.specs.FoundNames.{found_names, full_found, torn_folders, unplaced}
use Rattle.udfs_lost.specs.declared.trees.LostTree.{LostTree}
use Rattle.udfs_lost.proofs.Members.{item_in}
use Rattle.udfs_lost.proofs.PublicLaws.{bare_entries_will_do, bare_names_will_do}
use Rattle.udfs_salvage.specs.Found.{Found}
use Rattle.udfs_salvage.specs.Listings.{full_entry_in, full_in}
use Rattle.udfs_extraction.specs.Adding.{Adds}
use Rattle.udfs_extraction.specs.LostTrees.{AreNamesBy, AreNamesIn}
use Rattle.udfs_extraction.specs.Seats.{FoundAt, IsFoundAmong, IsFoundAt, IsFoundBelow, IsFoundIn}
use Rattle.udfs_extraction.proofs.FoundLemmas.{in_map}
use Rattle.udfs_extraction.proofs.PutNodes.{goes_on}

-- ---- what was added
pub adds_nothing : {A : Type 0} (P : A → Type 0) (xs : List A) → Adds P xs xs
adds_nothing P xs x is = inl is

pub adds_more : {A : Type 0} (P : A → Type 0) (xs : List A) (y : A) → P y → Adds P xs (xs ++ y ∷ [])
adds_more P xs y holds x is = ⊎_elim (λ before. inl before) (λ same. inr (subst P same holds)) (Contains-push_cases xs y x is)

pub adds_on : {A : Type 0} (P : A → Type 0) (old mid new : List A) → Adds P old mid → Adds P mid new → Adds P old new
adds_on P old mid new one two x is = ⊎_elim (λ before. one x before) (λ holds. inr holds) (two x is)

pub adds_wider : {A : Type 0} (P Q : A → Type 0) (old new : List A) → ((x : A) → P x → Q x) → Adds P old new → Adds Q old new
adds_wider P Q old new to adds x is = ⊎_elim (λ before. inl before) (λ holds. inr (to x holds)) (adds x is)

-- an item of a list
pub item_at : {A : Type 0} (xs : List A) (k : ℕ) (x : A) → k < length xs → x ≡ get_or xs k x → Contains xs x
item_at xs k x below at = subst (λ y. Contains xs y) (sym at) (item_in xs k x below)

-- what one that is lent leads to
pub lent_at : {A : Type 0} (xs : List (Bor A)) (ys : List A) (k : ℕ) (x : Bor A) → map (λ (b : Bor A). b.now) xs ≡ ys → k < length xs → x ≡ get_or xs k x → Contains ys x.now
lent_at {A} xs ys k x are below at = subst (λ l. Contains l x.now) are (contained _ _ (in_map (λ (b : Bor A). b.now) xs x (included xs x (item_at xs k x below at))))

-- all that was found in nodes, and then in trees
pub found_all : (v : View) (us told : List Unnamed) (nodes : List NodeFields) (trees : List LostTree) (none some all : List FoundAt) → us ≡ told → none ≡ [] → Adds (IsFoundAmong v us None nodes) none some → Adds (IsFoundBelow v us trees) some all
    → (p : FoundAt) → Contains all p → IsFoundIn v told nodes trees p
found_all v us told nodes trees none some all same empty first second p is = subst (λ l. IsFoundIn v l nodes trees p) same (⊎_elim (λ before. ⊎_elim (λ never. in_nothing p (subst (λ l. Contains l p) empty never)) (λ among. inl among) (first p before)) (λ below. inr below) (second p is))

-- ---- names of nodes and entries with what they lack
module _ (v : View) (deleted : Bool) (folders : List LostTree) (es : List Unnamed) where
  abbrev bare : List Unnamed
  bare = unplaced v deleted folders es

  abbrev full : List Unnamed
  full = unplaced v deleted folders (map (full_entry v) es)

  at_full : (tree : Option Icb) (n : NodeFields) (p : FoundAt) → IsFoundAt v bare tree n p → IsFoundAt v full tree n p
  at_full tree n p (f, is, same) = (
    full_found v f,
    subst (λ fs. Contains fs (full_found v f)) (sym ((bare_names_will_do v deleted folders es []).names n.icb)) (contained _ _ (in_map (full_found v) (found_names v bare n.icb) f (included _ f is))),
    same,
  )

  among_full : (tree : Option Icb) (ns : List NodeFields) (p : FoundAt) → IsFoundAmong v bare tree ns p → IsFoundAmong v full tree ns p
  among_full tree ns p (n, is, at) = (n, is, at_full tree n p at)

  nodes_full : (tree : Option Icb) (ns : List NodeFields) (p : FoundAt) → IsFoundAmong v bare tree ns p → IsFoundAmong v full tree (map (full_node v) ns) p
  nodes_full tree ns p (n, is, at) = (
    full_node v n,
    subst (λ fs. Contains fs (full_node v n)) (sym (bare_names_will_do v deleted folders es ns).folders) (contained _ _ (in_map (full_node v) (torn_folders ns) n (included _ n is))),
    at_full tree n p at,
  )

  in_full : (ns : List NodeFields) (p : FoundAt) → IsFoundIn v bare ns folders p → IsFoundIn v full (map (full_node v) ns) folders p
  in_full ns p (inl among) = inl (nodes_full None ns p among)
  in_full ns p (inr (t, is, among)) = inr (t, is, among_full (Some t.folder) t.nodes.items p among)

names_full : (v : View) (deleted : Bool) (ns : List NodeFields) (es : List Unnamed) (names : List FoundAt) → AreNamesIn v deleted ns es names → AreNamesIn v deleted (map (full_node v) ns) (map (full_entry v) es) names
names_full v deleted ns es names a = record {
  folders = a.folders;
  are_folders = record {
    roots = a.are_folders.roots;
    are_roots = subst (λ folders. AreLostRoots v folders a.are_folders.roots) (sym (bare_entries_will_do v deleted a.folders es).folders) a.are_folders.are_roots;
    are_trees = a.are_folders.are_trees;
  };
  each = λ p is. in_full v deleted a.folders es ns p (a.each p is);
}

-- seen by the table
pub names_seen : (deleted : Bool) (M : Blocks) (answer : Answer Found) (f : Found) (v : View) (ns told_nodes : List NodeFields) (es told : List Unnamed) (names : List FoundAt) → answer ≡ found f → v ≡ view M f.space
    → map (full_in M answer) ns ≡ told_nodes → map (full_entry_in M answer) es ≡ told → AreNamesIn v deleted ns es names → AreNamesBy deleted M answer told_nodes told names
names_seen deleted M answer f v ns told_nodes es told names opened seen nodes_are are a =
    subst (λ us. AreNamesBy deleted M answer told_nodes us names) are (subst (λ ms. AreNamesBy deleted M answer ms (map (full_entry_in M answer) es) names) nodes_are
    (subst (λ z. AreNamesBy deleted M z (map (full_in M z) ns) (map (full_entry_in M z) es) names) (sym opened) (names_full (view M f.space) deleted ns es names (subst (λ w. AreNamesIn w deleted ns es names) seen a))))

-- ---- the way to one
pub quiet_on : {F : Type 0} (moment : F → ℕ) (may_leave : F → Disk → Type 0) (left_since : F → ℕ → Disk → Type 0) (old mid new : F) → Goes moment may_leave left_since old mid Same → Goes moment may_leave left_since mid new Same
    → Goes moment may_leave left_since old new Same
quiet_on moment may_leave left_since old mid new one two = goes_on moment may_leave left_since old mid new Same Same Same one two (λ d c so_far. so_far) (λ d e c first second q. second q ∙ first q)
