use Rattle.std.proofs.Common.{◌∙◌, ap, map, sym}
use Rattle.std.specs.Prelude.{option_map}
use Rattle.std.proofs.lemmas.List.{map-append}
use Rattle.udfs_overview.specs.Tallies.{torn_file}
use Rattle.udfs_overview.specs.TornFiles.{torn_now}
use Rattle.udfs_overview.proofs.Chains.{found_none, found_some}
use Rattle.udfs_overview.proofs.tallies.torn_files.Goals as goal
use Rattle.udfs_overview.proofs.tallies.torn_files.Goals.{in-Some+in_ok-push, in_default}

pub loop-node-preserved : goal.loop-node-preserved
loop-node-preserved g c tells =
    let told = torn_file (g.B.BlockStore.states c.args.blocks.now) in
    elim c.match-torn_file.branch [
      | in-Some+in_ok-push w ↦ found_some told c.args.nodes.now c.loop-node.node-index c.node-item.result _ _ _ c.loop-node-test.true c.node-item.is (c.loop-node.invariant tells)
          (sym (c.torn_file.ensures tells) ∙ ap (option_map torn_now) w.in-Some.is)
          (ap (λ x. map torn_now x.items) w.files-is ∙ ap (map torn_now) w.in_ok-push.ensures.items ∙ map-append torn_now _ _)
      | in_default w ↦ found_none told c.args.nodes.now c.loop-node.node-index c.node-item.result _ _ c.loop-node-test.true c.node-item.is (c.loop-node.invariant tells)
          (sym (c.torn_file.ensures tells) ∙ ap (option_map torn_now) w.in_default.is) (ap (λ x. map torn_now x.items) w.files-is)
    ]
