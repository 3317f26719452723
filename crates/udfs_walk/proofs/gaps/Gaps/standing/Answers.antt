use Rattle.std.proofs.Common.{◌∙◌, ap, arith}
use Rattle.udfs_lattice.specs.Volumes.{ascending}
use Rattle.udfs_walk.proofs.RunLemmas.{tells_whole, tells_torn}
use Rattle.udfs_walk.proofs.gaps.Gaps.standing.Goals as goal

pub returns-then-len-eq0 : goal.returns-then-len-eq0
returns-then-len-eq0 c = λ whole p. tells_whole whole c.args.self _ p
    (c.in_ok-missing.ensures ∙ ap ascending (ap (λ g. g.missing) c.self.view_is ∙ c.in_ok-close.ensures.missing)) (omega (arith, c.if-len-eq0.true))

pub returns : goal.returns
returns c = λ whole p. tells_torn whole c.args.self _ _ p
    (c.in_ok-missing.ensures ∙ ap ascending (ap (λ g. g.missing) c.self.view_is ∙ c.in_ok-close.ensures.missing))
    (ap (λ g. g.holes) c.self.view_is ∙ c.in_ok-close.ensures.holes) (λ l. omega (arith, l, c.if-len-eq0.false))
