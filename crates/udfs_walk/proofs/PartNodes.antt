-- Over a part of a complete view with a lawful tree, each node is one of the tree, and told as the tree has it.
use Rattle.std.proofs.Common.{◌≡◌, sym, ◌∙◌, ap, subst, inl, inr, ℕ, List, [], ◌∷◌, Some, slice_get}
use Rattle.std.specs.Prelude.{◌↔◌}
use Rattle.std.specs.List.{AllZip}
use Rattle.udfs_tag.specs.declared.layouts.LongAd.{LongAd}
use Rattle.udfs_space.specs.Places.{View}
use Rattle.udfs_file.specs.Complete.{as_cells}
use Rattle.udfs_file.specs.Entries.{EntryFields}
use Rattle.udfs_file.specs.Fronts.{value}
use Rattle.udfs_file.specs.Laws.{IsCellOf, IsMissingAt, IsPartialBody}
use Rattle.udfs_file.specs.Standard.{Located}
use Rattle.udfs_file.specs.declared.cells.Cell.{Cell}
use Rattle.udfs_file.specs.declared.cells.Cell.TheVariants.{Byte, Gap}
use Rattle.udfs_walk.specs.Kinds.{kind_by}
use Rattle.udfs_walk.specs.NodeFields.{NodeFields}
use Rattle.udfs_walk.specs.Nodes.{node_at, node}
use Rattle.udfs_walk.specs.Routes.{Route, Walked, walked}
use Rattle.udfs_walk.specs.Standings.{missing_blocks, cells_standing}
use Rattle.udfs_walk.specs.Targets.{unread, entry, target}
use Rattle.udfs_walk.specs.Walks.{AreNodes}
use Rattle.udfs_walk.specs.declared.standings.Standing.TheVariants.{Whole}
use Rattle.udfs_walk.proofs.PublicLaws.{routes_stand_once}
use Rattle.udfs_walk.specs.Trees.{PartitionBlocks, TreeFile, InTree}
use Rattle.udfs_walk.specs.Needs.{IsMet}
use Rattle.udfs_walk.specs.NodeBodies.{HasCells}
use Rattle.udfs_walk.specs.Rereads.{holes_of}
use Rattle.udfs_walk.specs.Cells.{HasCellsAt, IsByteOf, IsByteOrMissing, IsToldAs, IsUntold, IsInRuns, IsTornAs, IsWholeAs}
use Rattle.udfs_walk.specs.TreeLaws.{IsTold, IsNodeOf, PartialNodes, OncePerPath}
use Rattle.udfs_walk.proofs.PartRoutes.{NodePart, node_unread, node_read, node_part, good_node, part_route}
use Rattle.udfs_walk.proofs.Runs.{none_at, none_missing, holes_are}
use Rattle.udfs_walk.proofs.Settings.{Setting, setting, Here, here, part_here, tree_here}
use Rattle.udfs_walk.proofs.MetNodes.{met}
use Rattle.udfs_walk.proofs.Listed.{path_is, Stands, stands}

-- ---- cells beside bytes
bytes_or_missing : (cs : List Cell) (xs : List Located) → AllZip IsCellOf cs (as_cells xs) → AllZip IsByteOrMissing cs xs
bytes_or_missing [] [] h = tt
bytes_or_missing [] (x ∷ xs) h = absurd h
bytes_or_missing (c ∷ cs) [] h = absurd h
bytes_or_missing (Byte y o ∷ cs) (x ∷ xs) h = (sym (ap value h.0), bytes_or_missing cs xs h.1)
bytes_or_missing (Gap n ∷ cs) (x ∷ xs) h = (tt, bytes_or_missing cs xs h.1)

pub all_there : (cs : List Cell) (xs : List Located) → missing_blocks cs ≡ [] → AllZip IsByteOrMissing cs xs → AllZip IsByteOf cs xs
all_there [] [] e h = tt
all_there [] (x ∷ xs) e h = absurd h
all_there (c ∷ cs) [] e h = absurd h
all_there (Byte y o ∷ cs) (x ∷ xs) e h = (h.0, all_there cs xs e h.1)
all_there (Gap n ∷ cs) (x ∷ xs) e h = absurd (let z : ⊥ = cc in z)

-- ---- the node at the end of a route
pub told_as : (v : View) (w : Walked) (e : EntryFields) (file : TreeFile) → target v w.address ≡ entry e → file.fields ≡ e → IsToldAs v.profile (node v w) file
unfolding node
told_as v w e file t f = record {
  kind = ap (λ z. (node_at v w z).kind) t ∙ ap (λ z. kind_by v.profile z.kind) (sym f);
  size = ap (λ z. (node_at v w z).size) t ∙ ap (λ z. Some z.size) (sym f);
  stamp = ap (λ z. (node_at v w z).stamp) t ∙ ap (λ z. Some z.stamp) (sym f);
}

untold : (v : View) (w : Walked) (n : ℕ) → target v w.address ≡ unread n → IsUntold (node v w)
unfolding node
untold v w n t = record { kind = ap (λ z. (node_at v w z).kind) t; size = ap (λ z. (node_at v w z).size) t; stamp = ap (λ z. (node_at v w z).stamp) t }

not_whole : (v : View) (w : Walked) (n : ℕ) {A : Type 0} → target v w.address ≡ unread n → (node v w).standing ≡ Whole → A
unfolding node
not_whole v w n t e = absurd (let q : (node_at v w (unread n)).standing ≡ Whole = ap (λ z. (node_at v w z).standing) (sym t) ∙ e in let z : ⊥ = cc in z)

-- the bytes of a node that is read
pub part_bytes : (some all : View) (blocks : PartitionBlocks) (root : LongAd) (s : Setting some all blocks root) (w : Walked) (h : Here some all blocks root w)
    → AllZip IsByteOrMissing (part_here some all blocks root s w h).part h.file.file.body
part_bytes some all blocks root s w h = bytes_or_missing part.part h.file.file.body (subst (AllZip IsCellOf part.part) h.file.body part.cells_are.each)
  where
    part : IsPartialBody some all w.address.reference w.address.block h.at.fields h.at.cs
    part = part_here some all blocks root s w h

pub cells_here : (some all : View) (blocks : PartitionBlocks) (root : LongAd) (s : Setting some all blocks root) (w : Walked) (h : Here some all blocks root w) → target some w.address ≡ entry h.at.fields
    → HasCells some w.address (part_here some all blocks root s w h).part
cells_here some all blocks root s w h t = record { fields = h.at.fields; is_entry = t; has_body = (part_here some all blocks root s w h).is }

torn_as : (some all : View) (blocks : PartitionBlocks) (root : LongAd) (s : Setting some all blocks root) (w : Walked) (h : Here some all blocks root w) → target some w.address ≡ entry h.at.fields
    → (node some w).standing ≡ cells_standing (part_here some all blocks root s w h).part → IsTornAs some.profile (node some w) h.file.file (part_here some all blocks root s w h).part
torn_as some all blocks root s w h t e = record {
  told = told_as some w h.at.fields h.file.file t h.file.fields;
  bytes = part_bytes some all blocks root s w h;
  holes = λ k. subst (λ z. IsMissingAt cs k ↔ IsInRuns (holes_of z) k) (sym e) (holes_are cs k);
}
  where
    cs : List Cell
    cs = (part_here some all blocks root s w h).part

pub whole_as : (some all : View) (blocks : PartitionBlocks) (root : LongAd) (s : Setting some all blocks root) (w : Walked) (h : Here some all blocks root w) → target some w.address ≡ entry h.at.fields
    → (node some w).standing ≡ cells_standing (part_here some all blocks root s w h).part → (node some w).standing ≡ Whole
    → IsWholeAs some.profile (node some w) h.file.file (part_here some all blocks root s w h).part
whole_as some all blocks root s w h t e is_whole = record {
  standing = is_whole;
  told = told_as some w h.at.fields h.file.file t h.file.fields;
  bytes = all_there cs h.file.file.body (none_missing cs (sym e ∙ is_whole)) (part_bytes some all blocks root s w h);
}
  where
    cs : List Cell
    cs = (part_here some all blocks root s w h).part

-- ---- the node in the list
node_of : (some all : View) (blocks : PartitionBlocks) (root : LongAd) (s : Setting some all blocks root) (nodes : List NodeFields) (are : AreNodes some root nodes) (index : ℕ) (route : Route) (w : Walked)
    → slice_get are.walks index ≡ Some w → walked some root route ≡ Some w → IsNodeOf some all blocks root index (node some w)
node_of some all blocks root s nodes are index route w at walks = record {
  file = h.file.file;
  in_tree = subst (λ z. InTree blocks root z h.file.file) (sym (path_is some w)) (tree_here some all blocks root s w h);
  no_fault = good_node some all blocks s.part s.is_whole w h.at;
  told = told p;
  whole = whole p;
}
  where
    h : Here some all blocks root w
    h = here some all blocks root s route w walks

    p : NodePart some all s.part w h.at
    p = node_part some all blocks s.part s.is_whole w h.at

    cs : List Cell
    cs = (part_here some all blocks root s w h).part

    has : target some w.address ≡ entry h.at.fields → HasCellsAt some root index cs
    has t = record { walks = are.walks; walk = are.walk; end = w; at = at; has_cells = cells_here some all blocks root s w h t }

    told : NodePart some all s.part w h.at → IsTold some root index (node some w) h.file.file
    told (node_unread n e u t) = inl (untold some w n t)
    told (node_read t e) = inr (cs, has t, torn_as some all blocks root s w h t e)

    clear : (node some w).standing ≡ cells_standing cs → (node some w).standing ≡ Whole → (k : ℕ) → ¬ IsMissingAt cs k
    clear e q k = none_at cs k (none_missing cs (sym e ∙ q))

    whole : NodePart some all s.part w h.at → (node some w).standing ≡ Whole
        → ((cs : List Cell) × HasCellsAt some root index cs × IsWholeAs some.profile (node some w) h.file.file cs) × IsMet some all blocks root (node some w).path
    whole (node_unread n e u t) q = not_whole some w n t q
    whole (node_read t e) q = (
      (cs, has t, whole_as some all blocks root s w h t e q),
      subst (IsMet some all blocks root) (sym (path_is some w)) (met some all blocks root s route w walks h h.at.fields t (clear e q)),
    )

pub partial_nodes : PartialNodes
partial_nodes some all blocks p c root l nodes are index n e =
    subst (IsNodeOf some all blocks root index) (sym x.is) (node_of some all blocks root (setting some all blocks p c root l) nodes are index x.route x.end x.at x.walks)
  where
    x : Stands some root nodes are index n
    x = stands some root nodes are index n e

-- no two nodes have one path
pub once_per_path : OncePerPath
once_per_path some all blocks p c root l nodes are i j m n at other e = routes_stand_once are.walk.routes i j x.route are.walk.in_order x.routed (y.routed ∙ ap Some (sym same))
  where
    s : Setting some all blocks root
    s = setting some all blocks p c root l

    x : Stands some root nodes are i m
    x = stands some root nodes are i m at

    y : Stands some root nodes are j n
    y = stands some root nodes are j n other

    same : x.route ≡ y.route
    same = s.routes.one l.distinct x.route y.route x.end y.end (part_route some all p root l.nodes x.route x.end x.walks) (part_route some all p root l.nodes y.route y.end y.walks)
        (sym (path_is some x.end) ∙ ap (λ z. z.path) (sym x.is) ∙ e ∙ ap (λ z. z.path) y.is ∙ path_is some y.end)
