use Rattle.std.proofs.Common.{◌≤◌, ◌<◌, ◌+◌, ◌-◌, ap, subst, arith}
use Rattle.udfs_space.specs.Views.{view_by}
use Rattle.udfs_file.specs.Knowledge.{IsKnowledge, knowledge_count}
use Rattle.udfs_file.specs.Stretches.{stretch_count}
use Rattle.udfs_file.proofs.KnownCells.{known_zeros}
use Rattle.udfs_file.proofs.PortionCells.{missing_take, recorded_take, zeros_take}
use Rattle.udfs_file.proofs.knowledge.stretch_knowledge.Goals as goal

pub returns-in-Recorded-clause-cells : goal.returns-in-Recorded-clause-cells
returns-in-Recorded-clause-cells g c told =
    let left : c.args.passed < c.in-Recorded.count = subst (λ z. c.args.passed < stretch_count z) c.in-Recorded.is c.requires in
    let most : knowledge_count c.recorded_knowledge.result ≤ c.from-in-Recorded.result - c.args.passed = c.recorded_knowledge.ensures.most in
    subst (IsKnowledge c.recorded_knowledge.result) (recorded_take (view_by g.B.BlockStore.states c.args.view) c.args.stretch c.in-Recorded.run' c.in-Recorded.count c.args.passed (c.from.result + c.args.passed)
    (knowledge_count c.recorded_knowledge.result) c.in-Recorded.is (ap (λ n. n + c.args.passed) c.from.ensures) (omega (arith, left, most, c.from-in-Recorded.ensures))) (c.recorded_knowledge.ensures.cells told)

pub returns-in-Zeros-clause-cells : goal.returns-in-Zeros-clause-cells
returns-in-Zeros-clause-cells g c told =
    let left : c.args.passed < c.in-Zeros.count = subst (λ z. c.args.passed < stretch_count z) c.in-Zeros.is c.requires in
    known_zeros _ _ (zeros_take (view_by g.B.BlockStore.states c.args.view) c.args.stretch c.in-Zeros.count c.args.passed (c.from-in-Zeros.result - c.args.passed) c.in-Zeros.is (omega (arith, left, c.from-in-Zeros.ensures)))

pub returns-in-Missing-clause-cells : goal.returns-in-Missing-clause-cells
returns-in-Missing-clause-cells g c told =
    let left : c.args.passed < c.in-Missing.count = subst (λ z. c.args.passed < stretch_count z) c.in-Missing.is c.requires in
    missing_take (view_by g.B.BlockStore.states c.args.view) c.args.stretch c.in-Missing.n c.in-Missing.count c.args.passed (c.in-Missing.count - c.args.passed) c.in-Missing.is (omega (arith, left)) (omega (arith, left))
