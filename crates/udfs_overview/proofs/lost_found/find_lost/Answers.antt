use Rattle.std.proofs.Common.{ap, None}
use Rattle.udfs_salvage.specs.Found.{found_now, volume_now}
use Rattle.udfs_overview.proofs.LostPieces.{closed_lost, closed_unfound, faulty_closed, holes_closed, if_told, opened_lost, opened_unfound}
use Rattle.udfs_overview.proofs.lost_found.find_lost.Goals as goal

pub returns-in-Ok-clause-found : goal.returns-in-Ok-clause-found
returns-in-Ok-clause-found g c told =
    opened_lost c.args.deleted g.B.BlockStore.states c.args.survey.now (found_now c.in-Open.opened) _ _ (record { rootless = None; trees = c.in-Ok.trees })
    (ap volume_now c.in-Open.is) c.view_by.ensures.value c.deref.ensures.value (c.in-Ok.ensures.trees told)

pub returns-in-Err-clause-refused : goal.returns-in-Err-clause-refused
returns-in-Err-clause-refused g c told =
    if_told _ _ (λ error. opened_unfound c.args.deleted g.B.BlockStore.states c.args.survey.now (found_now c.in-Open.opened) _ _ error (ap volume_now c.in-Open.is) c.view_by.ensures.value c.deref.ensures.value)
    c.in-Err.error (c.in-Err.ensures.refused told)
