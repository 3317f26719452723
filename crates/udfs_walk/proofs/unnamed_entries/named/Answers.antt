use Rattle.std.proofs.Common.{◌∙◌, [], sym, ap, subst, take, ◌+◌, ◌<◌, arith}
use Rattle.udfs_tag.specs.Fields.{number_of}
use Rattle.udfs_tag.specs.declared.layouts.LbAddr.{LbAddr}
use Rattle.udfs_space.specs.Places.{view}
use Rattle.udfs_file.specs.Addresses.{address_fault}
use Rattle.udfs_walk.specs.NamedKeys.{AreNamed}
use Rattle.udfs_walk.specs.Targets.{icb_of}
use Rattle.udfs_walk.proofs.NamedLemmas.{named_start, named_skip, named_more, named_all, take_whole}
use Rattle.udfs_walk.proofs.unnamed_entries.named.Goals as goal
use Rattle.udfs_walk.proofs.unnamed_entries.named.Goals.{in-Some, in-None+in_ok-push-in-None}

pub loop-node-init : goal.loop-node-init
loop-node-init c = λ blocks. subst (AreNamed (view blocks c.args.space.now) []) (sym c.new-keys.ensures.items) (named_start (view blocks c.args.space.now))

pub loop-node-preserved : goal.loop-node-preserved
loop-node-preserved c = λ blocks.
    let v = view blocks c.args.space.now in
    elim c.match-address_fault.branch [
      | in-Some w ↦ subst (AreNamed v (take (c.loop-node.node-index + 1) c.args.nodes.now)) (ap (λ k. k.items) (sym w.keys-is))
          (named_skip v c.args.nodes.now c.loop-node.node-index c.node-item.result c.loop-node.keys.items w.in-Some.field-0 c.loop-node-test.true c.node-item.is
          (w.in-Some.ensures blocks ∙ ap (λ n. address_fault v n.icb) c.node.view_is) (c.loop-node.invariant blocks))
      | in-None+in_ok-push-in-None w ↦ subst (AreNamed v (take (c.loop-node.node-index + 1) c.args.nodes.now)) (ap (λ k. k.items) (sym w.keys-is))
          (named_more v c.args.nodes.now c.loop-node.node-index c.node-item.result c.loop-node.keys.items w.push.new.self.items w.number.result c.loop-node-test.true c.node-item.is
          (w.in-None.ensures blocks ∙ ap (λ n. address_fault v n.icb) c.node.view_is)
          (w.number.ensures.value ∙ ap number_of w.address.ensures ∙ ap (λ n. number_of (icb_of n.icb)) c.node.view_is)
          (subst (λ n. n.icb.block < 4294967296) c.node.view_is (subst (λ (x : LbAddr). x.block < 4294967296) w.address.ensures w.number.ensures.block))
          w.in_ok-push-in-None.ensures.items (c.loop-node.invariant blocks))
    ]

pub returns-clause-named : goal.returns-clause-named
returns-clause-named c = λ blocks. named_all (view blocks c.args.space.now) c.args.nodes.now c.loop-node.node-index c.loop-node.keys.items c.sort_unstable.new.self.items
    (take_whole c.args.nodes.now c.loop-node.node-index (omega arith)) c.sort_unstable.ensures.permutation (c.loop-node.invariant blocks)
