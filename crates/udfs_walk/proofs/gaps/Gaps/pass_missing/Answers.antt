use Rattle.std.proofs.Common.{◌∙◌, ap, ◌++◌, ◌+◌, ◌-◌}
use Rattle.std.specs.List.{range_with_len}
use Rattle.udfs_walk.specs.BlockRuns.{blocks_of}
use Rattle.udfs_walk.proofs.KnownGaps.{blocks_more, unread_passes}
use Rattle.udfs_walk.proofs.gaps.Gaps.pass_missing.Goals as goal

pub returns-clause-passes : goal.returns-clause-passes
returns-clause-passes c = λ cs u l. unread_passes c.args.run.first (c.args.run.last + 1 - c.args.run.first) c.args.run.count cs c.args.self.now _ u l
    (ap blocks_of c.in_ok-push.ensures.items ∙ blocks_more _ _ ∙ ap (λ g. g.missing ++ range_with_len c.args.run.first (c.args.run.last + 1 - c.args.run.first)) c.self.view_is)
    (ap (λ g. g.holes) c.self.view_is) (ap (λ g. g.start) c.self.view_is) (ap (λ g. g.grown + c.args.run.count) c.self.view_is)
