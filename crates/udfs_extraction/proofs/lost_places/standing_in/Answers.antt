use Rattle.std.proofs.Common.{ap}
use Rattle.udfs_salvage.specs.Found.{found_now, volume_now}
use Rattle.udfs_extraction.specs.LostPlaces.{IsPlaceOf, IsStandIn}
use Rattle.udfs_extraction.proofs.LostPlaceLemmas.{faulty_place, holes_place, if_ok, open_place}
use Rattle.udfs_extraction.proofs.lost_places.standing_in.Goals as goal

pub returns-in-Open-clause-place : goal.returns-in-Open-clause-place
returns-in-Open-clause-place g c known = open_place g.B.BlockStore.states c.args.listing.now (found_now c.in-Open.field-0) (ap volume_now c.in-Open.is)

pub returns-in-Holes-clause-place : goal.returns-in-Holes-clause-place
returns-in-Holes-clause-place g c =
    let l = c.args.listing.now in
    let S = g.B.BlockStore in
    if_ok (λ s. S.tells → IsStandIn S.states l s) (λ s. S.tells → IsPlaceOf S.states l s) c.stand_in_for.result (λ s stands known. holes_place S.states l s c.in-Holes.field-0.items (ap volume_now c.in-Holes.is) (stands known)) c.stand_in_for.ensures.place

pub returns-in-Fault-clause-place : goal.returns-in-Fault-clause-place
returns-in-Fault-clause-place g c =
    let l = c.args.listing.now in
    let S = g.B.BlockStore in
    if_ok (λ s. S.tells → IsStandIn S.states l s) (λ s. S.tells → IsPlaceOf S.states l s) c.stand_in_for-in-Fault.result (λ s stands known. faulty_place S.states l s c.in-Fault.field-0 (ap volume_now c.in-Fault.is) (stands known)) c.stand_in_for-in-Fault.ensures.place
