use Rattle.std.proofs.Common.{map, subst}
use Rattle.udfs_space.specs.Views.{view_by}
use Rattle.udfs_walk.specs.Bare.{full_node}
use Rattle.udfs_walk.specs.GivingUp.{IfTold}
use Rattle.udfs_walk.specs.Walks.{AreNodes, IsNodesRefused}
use Rattle.udfs_extraction.proofs.lost_found.file_tree.Goals as goal

pub returns-in-Ok-clause-tree : goal.returns-in-Ok-clause-tree
returns-in-Ok-clause-tree g c known =
    let v = view_by g.B.BlockStore.states c.args.view in
    record {
      folder = c.address.ensures;
      nodes = subst (λ a. AreNodes v a (map (full_node v) c.in-Ok.nodes.items)) c.icb.ensures (c.in-Ok.ensures.value known);
    }

pub returns-in-Err-clause-refused : goal.returns-in-Err-clause-refused
returns-in-Err-clause-refused g c known = subst (λ a. IfTold (IsNodesRefused (view_by g.B.BlockStore.states c.args.view) a) c.in-Err.error) c.icb.ensures (c.in-Err.ensures.value known)
