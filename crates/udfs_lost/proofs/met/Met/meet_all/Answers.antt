use Rattle.udfs_lost.proofs.Members.{get_default}
use Rattle.udfs_lost.proofs.MetLemmas.{met_next}
use Rattle.udfs_lost.proofs.met.Met.meet_all.Goals as goal

pub loop-icb-preserved : goal.loop-icb-preserved
loop-icb-preserved c = met_next c.args.self c.args.icbs.now c.loop-icb.met c.in_ok-met.met c.loop-icb.icb-index _ c.loop-icb-test.true
    (get_default c.args.icbs.now c.loop-icb.icb-index _ _ c.loop-icb-test.true) c.loop-icb.invariant c.in_ok-met.ensures
