use Rattle.std.proofs.Common.{◌∙◌, sym, ap}
use Rattle.udfs_volume.specs.Answers.{holes}
use Rattle.udfs_lawfulness.proofs.Decided.{fault_refutes, holes_decide}
use Rattle.udfs_lawfulness.proofs.deciding.by_structures.Goals as goal

pub returns-in_ok-answer-in-Holes-clause-decided : goal.returns-in_ok-answer-in-Holes-clause-decided
returns-in_ok-answer-in-Holes-clause-decided g c told =
    holes_decide c.args.profile (g.B.BlockStore.states c.args.blocks.now) c.args.last c.deref.result.now c.args.unread.items c.in_ok-answer-in-Holes.answer (c.requires.left told)
    ((rw c.in-Holes.is at (c.in_ok-seen.ensures.value told)) ∙ ap holes (sym c.deref.ensures.value)) c.in_ok-answer-in-Holes.ensures

pub returns-in-Fault-clause-decided : goal.returns-in-Fault-clause-decided
returns-in-Fault-clause-decided g c told = fault_refutes c.args.profile (g.B.BlockStore.states c.args.blocks.now) c.args.last c.in-Fault.fault (rw c.in-Fault.is at (c.in_ok-seen.ensures.value told))
