use Rattle.std.proofs.Common.{◌↔◌, arith, sym, subst}
use Rattle.std.proofs.lemmas.Result.{IfOk-weaker}
use Rattle.udfs_rescue.specs.Known.{InRanges, IsKnown, RiseFrom}
use Rattle.udfs_rescue.proofs.Exactly.{known_exactly, rising}
use Rattle.udfs_rescue.proofs.known.known_from.Goals as goal

pub returns-clause-exactly : goal.returns-clause-exactly
returns-clause-exactly c =
    IfOk-weaker c.ranges_of.result _ _ (λ ranges h n. subst (λ l. InRanges l n ↔ IsKnown c.args.runs.now n) (sym h) (known_exactly c.args.first c.args.runs.now c.requires.runs n)) c.ranges_of.ensures

pub returns-clause-rise : goal.returns-clause-rise
returns-clause-rise c =
    IfOk-weaker c.ranges_of.result _ _ (λ ranges h. subst (RiseFrom 0) (sym h) (rising 0 c.args.first c.args.first c.args.runs.now (omega arith) (omega arith))) c.ranges_of.ensures
