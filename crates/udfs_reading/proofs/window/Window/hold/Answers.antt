use Rattle.std.proofs.Common.{refl, rules, ◌∙◌}
use Rattle.std.proofs.KnownBytes.{Consumes-nil}
use Rattle.udfs_reading.proofs.WindowLemmas.{left_then}
use Rattle.udfs_reading.proofs.window.Window.hold.Goals as goal

pub loop-self-init : goal.loop-self-init
loop-self-init g c = record { given = Consumes-nil _; place = refl; kept = refl }

pub returns-in_err-more-clause-left : goal.returns-in_err-more-clause-left
returns-in_err-more-clause-left g c = left_then _ _ _ c.loop-self.invariant.given c.more.ensures.left

pub returns-then-branch-eq0-clause-left : goal.returns-then-branch-eq0-clause-left
returns-then-branch-eq0-clause-left g c = left_then _ _ _ c.loop-self.invariant.given c.more.ensures.left

pub loop-self-preserved : goal.loop-self-preserved
loop-self-preserved g c = record { given = left_then _ _ _ c.loop-self.invariant.given c.more.ensures.left; place = c.more.ensures.at ∙ c.loop-self.invariant.place; kept = search rules }
