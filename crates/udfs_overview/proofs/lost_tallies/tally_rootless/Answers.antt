use Rattle.std.proofs.Common.{subst}
use Rattle.udfs_space.specs.Places.{view}
use Rattle.udfs_overview.specs.LostTallies.{IsTallyBy}
use Rattle.udfs_overview.proofs.LostTallying.{full_tallied}
use Rattle.udfs_overview.proofs.lost_tallies.tally_rootless.Goals as goal

pub returns-in-None-clause-tallied : goal.returns-in-None-clause-tallied
returns-in-None-clause-tallied g c told = subst (λ o. IsTallyBy o c.new.result.items c.no_tally.result) (rw c.in-None.is at (c.in_ok-without_root_by.ensures.value told)) (c.new.ensures.items, c.no_tally.ensures)

pub returns-in_ok-tally-in-Some-clause-tallied : goal.returns-in_ok-tally-in-Some-clause-tallied
returns-in_ok-tally-in-Some-clause-tallied g c told =
    let r = c.in-Some.rootless in
    let M = g.B.BlockStore.states c.args.blocks.now in
    let tally = c.in_ok-tally-in-Some.tally in
    let trees = c.in_ok-tally-in-Some.trees in
    subst (λ o. IsTallyBy o trees.items tally) (rw c.in-Some.is at (c.in_ok-without_root_by.ensures.value told))
    (full_tallied _ (view M r.volume.space) _ r.entries.items trees.items tally c.view_by-view.ensures.value c.deref.ensures.value (c.in_ok-tally-in-Some.ensures.tallied told))
