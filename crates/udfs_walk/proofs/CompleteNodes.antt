-- Over a complete view with a lawful tree, the nodes are those of the tree, each once and all whole.
use Rattle.std.proofs.Common.{◌≡◌, refl, sym, ◌∙◌, subst, ℕ, List, [], ◌∷◌, length, Some, slice_get}
use Rattle.std.specs.List.{AllZip}
use Rattle.udfs_lattice.specs.declared.facts.Fact.TheVariants.{Known}
use Rattle.udfs_tag.specs.declared.layouts.LongAd.{LongAd}
use Rattle.udfs_volume.specs.Sequence.{Bytes}
use Rattle.udfs_space.specs.Places.{View, IsPartOf}
use Rattle.udfs_file.specs.Complete.{IsComplete, as_cells}
use Rattle.udfs_file.specs.Standard.{Located}
use Rattle.udfs_file.specs.declared.cells.Cell.{Cell}
use Rattle.udfs_walk.specs.NodeFields.{NodeFields}
use Rattle.udfs_walk.specs.Nodes.{node}
use Rattle.udfs_walk.specs.Routes.{Route, Walked, at_root, walked}
use Rattle.udfs_walk.specs.Trees.{PartitionBlocks, TreeFile, IsFileAt, InTree}
use Rattle.udfs_walk.specs.NodeBodies.{HasCells}
use Rattle.udfs_walk.specs.Cells.{HasCellsAt, IsByteOf, IsWholeAs}
use Rattle.udfs_walk.specs.Lawful.{IsLawfulTree}
use Rattle.udfs_walk.specs.TreeLaws.{IsWholeNode, CompleteNodes, OneFile, RootInTree}
use Rattle.udfs_walk.proofs.WholeRoutes.{IsRouteTo}
use Rattle.udfs_walk.proofs.PartNodes.{told_as, once_per_path}
use Rattle.udfs_walk.proofs.Settings.{Setting, setting, Here, here_all, tree_here, one_address}
use Rattle.udfs_walk.proofs.Listed.{path_is, Stands, stands, Placed, placed}

-- a complete view is part of itself
part_of_itself : (all : View) (blocks : PartitionBlocks) → IsComplete all blocks → IsPartOf all all
part_of_itself all blocks c = record {
  partitions = refl;
  places = λ r b. refl;
  profile = refl;
  complete = λ r b n p. let t : (bytes : Bytes) × (all.blocks n ≡ Known bytes) × (blocks.at r b ≡ Some bytes) × (length bytes ≡ 2048) = c.there r b n p in (t.0, t.1);
  agrees = λ r b n bytes p k. k;
}

all_bytes : (xs : List Located) → AllZip IsByteOf (as_cells xs) xs
all_bytes [] = tt
all_bytes (x ∷ xs) = (refl, all_bytes xs)

-- the node at the end of a route is whole, as the file there
whole_here : (all : View) (blocks : PartitionBlocks) (root : LongAd) (s : Setting all all blocks root) (w : Walked) (h : Here all all blocks root w) → IsWholeAs all.profile (node all w) h.file.file h.at.cs
whole_here all blocks root s w h = record {
  standing = s.lawful.nodes h.route w h.walks;
  told = told_as all w h.at.fields h.file.file h.at.is_entry h.file.fields;
  bytes = subst (λ z. AllZip IsByteOf z h.file.file.body) (sym h.file.body) (all_bytes h.file.file.body);
}

has_here : (all : View) (blocks : PartitionBlocks) (root : LongAd) (w : Walked) (h : Here all all blocks root w) → HasCells all w.address h.at.cs
has_here all blocks root w h = record { fields = h.at.fields; is_entry = h.at.is_entry; has_body = h.at.has_body }

-- the file at the end of a route is one of the tree
pub route_in_tree : (all : View) (blocks : PartitionBlocks) → IsComplete all blocks → (root : LongAd) → IsLawfulTree all root → (route : Route) (w : Walked) → walked all root route ≡ Some w
    → (file : TreeFile) × InTree blocks root w.path file
route_in_tree all blocks c root l route w walks = (h.file.file, tree_here all all blocks root s w h)
  where
    s : Setting all all blocks root
    s = setting all all blocks (part_of_itself all blocks c) c root l

    h : Here all all blocks root w
    h = here_all all all blocks root s route w walks

pub root_in_tree : RootInTree
unfolding walked
root_in_tree all blocks c root l = route_in_tree all blocks c root l [] (at_root root) refl

pub complete_nodes : CompleteNodes
complete_nodes all blocks c root l nodes are = record { in_tree = in_tree; is_listed = is_listed; once = once_per_path all all blocks (part_of_itself all blocks c) c root l nodes are }
  where
    s : Setting all all blocks root
    s = setting all all blocks (part_of_itself all blocks c) c root l

    in_tree : (index : ℕ) (n : NodeFields) → slice_get nodes index ≡ Some n → IsWholeNode all blocks root index n
    in_tree index n e = subst (IsWholeNode all blocks root index) (sym x.is) (
      h.file.file,
      h.at.cs,
      subst (λ z. InTree blocks root z h.file.file) (sym (path_is all x.end)) (tree_here all all blocks root s x.end h),
      record { walks = are.walks; walk = are.walk; end = x.end; at = x.at; has_cells = has_here all blocks root x.end h },
      whole_here all blocks root s x.end h,
    )
      where
        x : Stands all root nodes are index n
        x = stands all root nodes are index n e

        h : Here all all blocks root x.end
        h = here_all all all blocks root s x.route x.end x.walks

    is_listed : (path : List (List ℕ)) (file : TreeFile) → InTree blocks root path file
        → (index : ℕ) × (n : NodeFields) × (cs : List Cell) × (slice_get nodes index ≡ Some n) × (n.path ≡ path) × HasCellsAt all root index cs × IsWholeAs all.profile n file cs
    is_listed path file t = (
      p.index,
      node all u.end,
      h.at.cs,
      p.listed,
      path_is all u.end ∙ u.path_is,
      record { walks = are.walks; walk = are.walk; end = u.end; at = p.at; has_cells = has_here all blocks root u.end h },
      subst (λ z. IsWholeAs all.profile (node all u.end) z h.at.cs) (sym same) (whole_here all blocks root s u.end h),
    )
      where
        u : IsRouteTo all root path t.address
        u = s.routes.is_route path t.address t.leads

        h : Here all all blocks root u.end
        h = here_all all all blocks root s u.route u.end u.leads

        p : Placed all root nodes are u.end
        p = placed all root nodes are u.route u.end u.leads

        same : file ≡ h.file.file
        same = h.file.only file (subst (λ z. IsFileAt blocks z file) (sym u.address_is) t.is_file)

pub one_file : OneFile
one_file all blocks c root l path file other t u = h.file.only other (at other u) ∙ sym (h.file.only file (at file t))
  where
    s : Setting all all blocks root
    s = setting all all blocks (part_of_itself all blocks c) c root l

    r : IsRouteTo all root path t.address
    r = s.routes.is_route path t.address t.leads

    h : Here all all blocks root r.end
    h = here_all all all blocks root s r.route r.end r.leads

    at : (x : TreeFile) (i : InTree blocks root path x) → IsFileAt blocks r.end.address x
    at x i = subst (λ z. IsFileAt blocks z x) (one_address all all blocks root s r.end h path i.address r.path_is i.leads) i.is_file
