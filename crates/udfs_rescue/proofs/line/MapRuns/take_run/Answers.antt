use Rattle.std.proofs.Common.{◌≡◌, true, sym, ◌∙◌, arith, rules}
use Rattle.udfs_rescue.proofs.Contiguous.{due_more}
use Rattle.udfs_rescue.proofs.line.MapRuns.take_run.Goals as goal

pub invariant_of-self-2 : goal.invariant_of-self-2
invariant_of-self-2 c =
    let due : c.is_due.result ≡ true = search rules in
    rw c.in_ok-push.ensures.items (due_more c.self.inside.due c.self.inside.runs.items _ c.self.invariant (sym c.is_due.ensures ∙ due) (omega arith))
