use Rattle.std.proofs.Common.{◌∙◌, ◌+◌, ap, arith}
use Rattle.udfs_walk.proofs.RunLemmas.{none_passes, some_known}
use Rattle.udfs_walk.proofs.gaps.Gaps.pass_known.Goals as goal

pub returns-then-count-eq0-clause-passes : goal.returns-then-count-eq0-clause-passes
returns-then-count-eq0-clause-passes c = λ cs h l. none_passes cs _ (omega arith)

pub returns-clause-passes : goal.returns-clause-passes
returns-clause-passes c = λ cs h l. some_known cs _ _ c.args.count h l (omega arith)
    (ap (λ g. g.missing) c.self.view_is ∙ c.in_ok-close.ensures.missing)
    (ap (λ g. g.holes) c.self.view_is ∙ c.in_ok-close.ensures.holes)
    (ap (λ g. g.start + c.args.count) c.self.view_is ∙ ap (λ n. n + c.args.count) c.in_ok-close.ensures.start)
    (ap (λ g. g.grown) c.self.view_is ∙ c.in_ok-close.ensures.grown)
