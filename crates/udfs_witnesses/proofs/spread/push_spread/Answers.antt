use Rattle.std.proofs.Common.{arith}
use Rattle.udfs_witnesses.proofs.WitnessLemmas.{all_ninths, one_ninth}
use Rattle.udfs_witnesses.proofs.spread.push_spread.Goals as goal

pub loop-i-preserved : goal.loop-i-preserved
loop-i-preserved g c told = one_ninth (g.B.BlockStore.states c.args.blocks.now) c.args.last c.loop-i.i c.loop-i.places.items c.push_telling.new.places.items _ c.loop-i-test.true (c.in_ok-push_telling.ensures.value told) (c.loop-i.invariant told)

pub returns-clause-value : goal.returns-clause-value
returns-clause-value g c told = all_ninths (g.B.BlockStore.states c.args.blocks.now) c.args.last c.loop-i.i c.loop-i.places.items _ (omega (arith, c.loop-i-test.false)) (c.loop-i.invariant told)
