use Rattle.std.proofs.Common.{◌∙◌, List, ap, map, sym, ℕ}
use Rattle.std.specs.Borrow.{Bor}
use Rattle.std.specs.Prelude.{option_map}
use Rattle.std.proofs.lemmas.List.{map-append}
use Rattle.udfs_overview.specs.UnreadLists.{unread_path}
use Rattle.udfs_overview.proofs.Chains.{found_none, found_some}
use Rattle.udfs_overview.proofs.unread_lines.unread_paths.Goals as goal
use Rattle.udfs_overview.proofs.unread_lines.unread_paths.Goals.{in-Some+in_ok-push, in_default}

pub loop-node-preserved : goal.loop-node-preserved
loop-node-preserved c =
    let now : Bor (List (List ℕ)) → List (List ℕ) = λ path. path.now in
    elim c.match-unread_path.branch [
      | in-Some+in_ok-push w ↦ found_some unread_path c.args.nodes.now c.loop-node.node-index c.node-item.result _ _ _ c.loop-node-test.true c.node-item.is c.loop-node.invariant
          (sym c.unread_path.ensures ∙ ap (option_map now) w.in-Some.is)
          (ap (λ x. map now x.items) w.paths-is ∙ ap (map now) w.in_ok-push.ensures.items ∙ map-append now _ _)
      | in_default w ↦ found_none unread_path c.args.nodes.now c.loop-node.node-index c.node-item.result _ _ c.loop-node-test.true c.node-item.is c.loop-node.invariant
          (sym c.unread_path.ensures ∙ ap (option_map now) w.in_default.is) (ap (λ x. map now x.items) w.paths-is)
    ]
