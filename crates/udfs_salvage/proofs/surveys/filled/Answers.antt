use Rattle.std.proofs.Common.{ap, subst, sym}
use Rattle.std.proofs.lemmas.Result.{err_from_is_err_and}
use Rattle.udfs_salvage.specs.Found.{volume_now}
use Rattle.udfs_salvage.specs.Surveys.{IsNoFault}
use Rattle.udfs_salvage.proofs.surveys.filled.Goals as goal

pub returns-in_err-nodes-in-Open-clause-fault : goal.returns-in_err-nodes-in-Open-clause-fault
returns-in_err-nodes-in-Open-clause-fault c =
    let p = err_from_is_err_and c.from_residual.result c.from_residual.ensures.1 in
    rw p.1 (subst IsNoFault (sym (ap volume_now c.in-Open.is)) tt)

pub returns-in_err-unnamed-in-Open-clause-fault : goal.returns-in_err-unnamed-in-Open-clause-fault
returns-in_err-unnamed-in-Open-clause-fault c =
    let p = err_from_is_err_and c.from_residual-in_err-unnamed-in-Open.result c.from_residual-in_err-unnamed-in-Open.ensures.1 in
    rw p.1 (subst IsNoFault (sym (ap volume_now c.in-Open.is)) tt)
