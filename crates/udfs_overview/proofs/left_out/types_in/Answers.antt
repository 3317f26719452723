use Rattle.std.proofs.Common.{◌∙◌, ap, sym}
use Rattle.udfs_overview.specs.LeftOut.{left_out_type}
use Rattle.udfs_overview.proofs.Chains.{found_none, found_some}
use Rattle.udfs_overview.proofs.left_out.types_in.Goals as goal
use Rattle.udfs_overview.proofs.left_out.types_in.Goals.{in-Some+in_ok-push, in_default}

pub loop-node-preserved : goal.loop-node-preserved
loop-node-preserved c = elim c.match-left_out_type.branch [
  | in-Some+in_ok-push w ↦ found_some left_out_type c.args.nodes.now c.loop-node.node-index c.node-item.result _ _ _ c.loop-node-test.true c.node-item.is c.loop-node.invariant
      (sym c.left_out_type.ensures ∙ w.in-Some.is) (ap (λ x. x.items) w.types-is ∙ w.in_ok-push.ensures.items)
  | in_default w ↦ found_none left_out_type c.args.nodes.now c.loop-node.node-index c.node-item.result _ _ c.loop-node-test.true c.node-item.is c.loop-node.invariant
      (sym c.left_out_type.ensures ∙ w.in_default.is) (ap (λ x. x.items) w.types-is)
]
