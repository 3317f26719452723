use Rattle.std.proofs.Common.{◌≡◌, ◌||◌, ◌+◌, ◌∙◌, ap, subst, sym, take}
use Rattle.std.specs.List.{list_any}
use Rattle.udfs_space.specs.Places.{view}
use Rattle.udfs_file.specs.Addresses.{address_fault}
use Rattle.udfs_walk.specs.Targets.{icb_of, is_icb}
use Rattle.udfs_walk.specs.UnnamedEntries.{names}
use Rattle.udfs_lost.proofs.FileLemmas.{names_more, names_skip}
use Rattle.udfs_lost.proofs.files.with_names.Goals as goal
use Rattle.udfs_lost.proofs.files.with_names.Goals.{in-Some, in-None+in_ok-met-in-None}

pub loop-node-preserved : goal.loop-node-preserved
loop-node-preserved c = λ blocks icb.
    let v = view blocks c.args.space.now in
    let nodes = c.args.nodes.now in
    let i = c.loop-node.node-index in
    let old = list_any (is_icb icb) c.args.met in
    elim c.match-address_fault.branch [
      | in-Some w ↦ subst (λ z. list_any (is_icb icb) z ≡ (old || list_any (names v icb) (take (i + 1) nodes))) (sym w.met-is)
          (names_skip v nodes i c.node-item.result w.in-Some.field-0 icb old c.loop-node.met c.loop-node-test.true c.node-item.is
          (w.in-Some.ensures blocks ∙ ap (λ n. address_fault v n.icb) c.node.view_is) (c.loop-node.invariant blocks icb))
      | in-None+in_ok-met-in-None w ↦ subst (λ z. list_any (is_icb icb) z ≡ (old || list_any (names v icb) (take (i + 1) nodes))) (sym w.met-is)
          (names_more v nodes i c.node-item.result w.address.result icb old c.loop-node.met w.in_ok-met-in-None.met c.loop-node-test.true c.node-item.is
          (w.in-None.ensures blocks ∙ ap (λ n. address_fault v n.icb) c.node.view_is) (w.address.ensures ∙ ap (λ n. icb_of n.icb) c.node.view_is) w.in_ok-met-in-None.ensures
          (c.loop-node.invariant blocks icb))
    ]
