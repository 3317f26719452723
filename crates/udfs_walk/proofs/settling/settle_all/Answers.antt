use Rattle.std.proofs.Common.{◌<◌, arith, length}
use Rattle.udfs_space.specs.Views.{view_by}
use Rattle.udfs_walk.proofs.CountLemmas.{counted_once}
use Rattle.udfs_walk.proofs.SettleLemmas.{key_within, settled_more}
use Rattle.udfs_walk.proofs.settling.settle_all.Goals as goal

pub returns-in_err-settle-clause-within : goal.returns-in_err-settle-clause-within
returns-in_err-settle-clause-within g c told start icbs w counted =
    let within = (let h : c.loop-node.node-index < length c.loop-node.nodes = omega (arith, c.loop-node-test.true, c.loop-node.auto.nodes) in h) in
    c.in_err-settle.ensures.within start icbs
    (w _ (key_within (view_by g.B.BlockStore.states c.args.view) c.args.nodes.now c.loop-node.nodes c.loop-node.node-index c.node-item.result within (c.loop-node.invariant.0 told)))
    (c.loop-node.invariant.2 told start icbs w counted)

pub returns-clause-within : goal.returns-clause-within
returns-clause-within g c told start icbs w counted = counted_once start icbs c.loop-node.memo c.loop-node.walks (c.loop-node.invariant.2 told start icbs w counted)

pub loop-node-preserved : goal.loop-node-preserved
loop-node-preserved g c =
    let v = view_by g.B.BlockStore.states c.args.view in
    let within = (let h : c.loop-node.node-index < length c.loop-node.nodes = omega (arith, c.loop-node-test.true, c.loop-node.auto.nodes) in h) in
    let before = (let h : c.loop-node.node-index < length c.args.nodes.now = omega (arith, c.loop-node-test.true, c.loop-node.auto.nodes) in h) in (
      λ told. settled_more v c.args.nodes.now c.loop-node.nodes c.loop-node.node-index c.node-item.result c.settle.new.node before within (c.loop-node.invariant.0 told) (c.in_ok-settle.ensures.settled told),
      c.in_ok-settle.ensures.words,
      λ told start icbs w counted. c.in_ok-settle.ensures.counted start icbs
          (w _ (key_within v c.args.nodes.now c.loop-node.nodes c.loop-node.node-index c.node-item.result within (c.loop-node.invariant.0 told)))
          (c.loop-node.invariant.2 told start icbs w counted),
    )
