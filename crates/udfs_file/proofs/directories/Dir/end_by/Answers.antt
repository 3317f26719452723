use Rattle.std.proofs.Common.{◌∙◌, sym, subst, List, true}
use Rattle.udfs_space.specs.Views.{view_by}
use Rattle.udfs_file.specs.Identifiers.{Nothing, Stopped, Wrong}
use Rattle.udfs_file.specs.Stretches.{cells_of}
use Rattle.udfs_file.specs.declared.cells.Cell.{Cell}
use Rattle.udfs_file.proofs.Ends.{IsEnding, ended, ending_start, ending_listed, ending_unlisted}
use Rattle.udfs_file.proofs.StoreSteps.{passed_by, sized_fewer}
use Rattle.udfs_file.proofs.directories.Dir.end_by.Goals as goal

pub steps-init : goal.steps-init
steps-init g c told = ending_start c.args.profile (cells_of (view_by g.B.BlockStore.states c.args.view) c.args.body.now) c.keep.new.self (c.in_ok-keep.ensures.same ∙ c.new-cursor.ensures)

pub steps-smaller : goal.steps-smaller
steps-smaller g c = sized_fewer c.steps.cursor c.pass.new.self c.in_ok-pieces.field-0 c.in-Id.pieces
    (passed_by c.steps.cursor c.pass.new.self c.in_ok-pieces.field-0 c.in-Id.pieces c.len-size.result c.in-Id.is c.len-size.ensures c.in_ok-pass-in-Id.ensures.moved) c.in_ok-pieces.ensures.size c.in-Id.is

pub steps-preserved : goal.steps-preserved
steps-preserved g c told = subst (λ (cs : List Cell). IsEnding c.args.profile (cells_of (view_by g.B.BlockStore.states c.args.view) c.args.body.now) cs c.steps.lists)
    (sym (passed_by c.steps.cursor c.pass.new.self c.in_ok-pieces.field-0 c.in-Id.pieces c.len-size.result c.in-Id.is c.len-size.ensures c.in_ok-pass-in-Id.ensures.moved))
    (ending_unlisted c.args.profile (cells_of (view_by g.B.BlockStore.states c.args.view) c.args.body.now) c.steps.cursor _ c.steps.lists c.in_ok-pieces.field-0 c.in-Id.pieces
    (c.steps.invariant told) (c.in_ok-pieces.ensures.directory told) c.in-Id.is (sym c.is_listed-is_listed.ensures ∙ c.if-is_listed.false))

pub steps-preserved-then-is_listed : goal.steps-preserved-then-is_listed
steps-preserved-then-is_listed g c told = subst (λ (cs : List Cell). IsEnding c.args.profile (cells_of (view_by g.B.BlockStore.states c.args.view) c.args.body.now) cs true)
    (sym (passed_by c.steps.cursor c.pass.new.self c.in_ok-pieces.field-0 c.in-Id.pieces c.len-size.result c.in-Id.is c.len-size.ensures c.in_ok-pass-in-Id.ensures.moved))
    (ending_listed c.args.profile (cells_of (view_by g.B.BlockStore.states c.args.view) c.args.body.now) c.steps.cursor _ c.steps.lists c.in_ok-pieces.field-0 c.in-Id.pieces
    (c.steps.invariant told) (c.in_ok-pieces.ensures.directory told) c.in-Id.is (sym c.is_listed-is_listed.ensures ∙ c.if-is_listed.true))

pub returns-in-Stop-clause-value : goal.returns-in-Stop-clause-value
returns-in-Stop-clause-value g c told = let d = rw c.in-Stop.is at (c.in_ok-pieces.ensures.directory told) in
    ended c.args.profile (cells_of (view_by g.B.BlockStore.states c.args.view) c.args.body.now) c.steps.cursor c.steps.lists c.end_at.result (Stopped c.in-Stop.n) (c.steps.invariant told) d.0 d.1
    c.end_at.ensures.0 c.end_at.ensures.1 c.end_at.ensures.2

pub returns-in-Fault-clause-value : goal.returns-in-Fault-clause-value
returns-in-Fault-clause-value g c told = let d = rw c.in-Fault.is at (c.in_ok-pieces.ensures.directory told) in
    ended c.args.profile (cells_of (view_by g.B.BlockStore.states c.args.view) c.args.body.now) c.steps.cursor c.steps.lists c.end_at-in-Fault.result (Wrong c.in-Fault.fault) (c.steps.invariant told) d.0 d.1
    c.end_at-in-Fault.ensures.0 c.end_at-in-Fault.ensures.1 c.end_at-in-Fault.ensures.2

pub returns-in-End-clause-value : goal.returns-in-End-clause-value
returns-in-End-clause-value g c told = let d = rw c.in-End.is at (c.in_ok-pieces.ensures.directory told) in
    ended c.args.profile (cells_of (view_by g.B.BlockStore.states c.args.view) c.args.body.now) c.steps.cursor c.steps.lists c.end_at-in-End.result Nothing (c.steps.invariant told) d.0 d.1
    c.end_at-in-End.ensures.0 c.end_at-in-End.ensures.1 c.end_at-in-End.ensures.2
