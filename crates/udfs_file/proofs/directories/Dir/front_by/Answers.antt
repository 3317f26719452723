use Rattle.std.proofs.Common.{◌≡◌, ◌+◌, ◌∙◌, sym, ap, subst, List, [], ◌∷◌, length, length-append, arith}
use Rattle.udfs_space.specs.Views.{view_by}
use Rattle.udfs_file.specs.Identifiers.{Nothing, Stopped, Wrong}
use Rattle.udfs_file.specs.Stretches.{cells_of}
use Rattle.udfs_file.specs.Steps.{IsListedIn, bytes_of}
use Rattle.udfs_file.specs.declared.cells.Cell.{Cell}
use Rattle.udfs_file.proofs.FrontLemmas.{IsFronting, front-start, front_listed, front_unlisted, front_ended, lists_entry, lists_some}
use Rattle.udfs_file.proofs.StoreSteps.{passed_by}
use Rattle.udfs_file.proofs.Telling.{tells_front}
use Rattle.udfs_file.proofs.directories.Dir.front_by.Goals as goal

pub steps-init : goal.steps-init
steps-init g c = record {
  fronting = λ told. subst (IsFronting c.args.profile (cells_of (view_by g.B.BlockStore.states c.args.view) c.args.body.now) c.keep.new.self) (sym c.new-entries.ensures.items)
      (subst (λ (cs : List Cell). IsFronting c.args.profile (cells_of (view_by g.B.BlockStore.states c.args.view) c.args.body.now) cs []) (sym (c.in_ok-keep.ensures.same ∙ c.new-cursor.ensures))
      (front-start c.args.profile (cells_of (view_by g.B.BlockStore.states c.args.view) c.args.body.now)));
  few = let e : length c.new-entries.result.items ≡ 0 = ap length c.new-entries.ensures.items in omega (arith, e);
}

pub returns-then-len-most-clause-refused : goal.returns-then-len-most-clause-refused
returns-then-len-most-clause-refused g c told = let more = lists_entry c.args.profile (cells_of (view_by g.B.BlockStore.states c.args.view) c.args.body.now) c.steps.cursor c.steps.entries.items _
    c.in-Id.pieces c.in_ok-pieces.field-0 c.in-Ok-Some.entry (c.steps.invariant.fronting told) (c.in_ok-pieces.ensures.step told) c.in-Id.is (subst (IsListedIn (bytes_of c.in-Id.pieces)) c.in-Ok-Some.field-0-is c.in-Ok-Some.ensures.entry) in
    omega (arith, more)

pub returns-in-Err-clause-refused : goal.returns-in-Err-clause-refused
returns-in-Err-clause-refused g c told = let more = lists_some c.args.profile (cells_of (view_by g.B.BlockStore.states c.args.view) c.args.body.now) c.steps.cursor c.steps.entries.items _
    c.in-Id.pieces c.in_ok-pieces.field-0 (c.steps.invariant.fronting told) (c.in_ok-pieces.ensures.step told) c.in-Id.is c.in-Err.ensures.memory in
    omega (arith, more)

pub steps-preserved : goal.steps-preserved
steps-preserved g c = record {
  fronting = λ told. subst (λ (cs : List Cell). IsFronting c.args.profile (cells_of (view_by g.B.BlockStore.states c.args.view) c.args.body.now) cs c.steps.entries.items)
      (sym (passed_by c.steps.cursor c.pass-in-Ok-None.new.self c.in_ok-pieces.field-0 c.in-Id.pieces c.len-size.result c.in-Id.is c.len-size.ensures c.in_ok-pass-in-Ok-None.ensures.moved))
      (front_unlisted c.args.profile (cells_of (view_by g.B.BlockStore.states c.args.view) c.args.body.now) c.steps.cursor c.steps.entries.items
      _ c.in-Id.pieces c.in_ok-pieces.field-0 c.in-Ok-None.field-0 (c.steps.invariant.fronting told) (c.in_ok-pieces.ensures.step told) c.in-Id.is c.in-Ok-None.ensures.entry c.in-Ok-None.field-0-is);
  few = c.steps.invariant.few;
}

pub returns-in-Stop-clause-value : goal.returns-in-Stop-clause-value
returns-in-Stop-clause-value g c told = front_ended c.args.profile (cells_of (view_by g.B.BlockStore.states c.args.view) c.args.body.now) c.steps.cursor c.steps.entries.items c.ended.result (Stopped c.in-Stop.n) (c.steps.invariant.fronting told)
    (rw c.in-Stop.is at (c.in_ok-pieces.ensures.step told)).is (ap (λ es. es.items) c.ended.ensures.0) c.ended.ensures.1 c.ended.ensures.2

pub returns-in-Stop-clause-complete : goal.returns-in-Stop-clause-complete
returns-in-Stop-clause-complete g c told = tells_front c.args.profile (cells_of (view_by g.B.BlockStore.states c.args.view) c.args.body.now) c.ended.result (returns-in-Stop-clause-value g c told)

pub returns-in-Fault-clause-value : goal.returns-in-Fault-clause-value
returns-in-Fault-clause-value g c told = front_ended c.args.profile (cells_of (view_by g.B.BlockStore.states c.args.view) c.args.body.now) c.steps.cursor c.steps.entries.items c.ended-in-Fault.result (Wrong c.in-Fault.fault) (c.steps.invariant.fronting told)
    (rw c.in-Fault.is at (c.in_ok-pieces.ensures.step told)).is (ap (λ es. es.items) c.ended-in-Fault.ensures.0) c.ended-in-Fault.ensures.1 c.ended-in-Fault.ensures.2

pub returns-in-Fault-clause-complete : goal.returns-in-Fault-clause-complete
returns-in-Fault-clause-complete g c told = tells_front c.args.profile (cells_of (view_by g.B.BlockStore.states c.args.view) c.args.body.now) c.ended-in-Fault.result (returns-in-Fault-clause-value g c told)

pub returns-in-End-clause-value : goal.returns-in-End-clause-value
returns-in-End-clause-value g c told = front_ended c.args.profile (cells_of (view_by g.B.BlockStore.states c.args.view) c.args.body.now) c.steps.cursor c.steps.entries.items c.ended-in-End.result Nothing (c.steps.invariant.fronting told)
    (rw c.in-End.is at (c.in_ok-pieces.ensures.step told)).is (ap (λ es. es.items) c.ended-in-End.ensures.0) c.ended-in-End.ensures.1 c.ended-in-End.ensures.2

pub returns-in-End-clause-complete : goal.returns-in-End-clause-complete
returns-in-End-clause-complete g c told = tells_front c.args.profile (cells_of (view_by g.B.BlockStore.states c.args.view) c.args.body.now) c.ended-in-End.result (returns-in-End-clause-value g c told)

pub returns-in-Err-put-clause-refused : goal.returns-in-Err-put-clause-refused
returns-in-Err-put-clause-refused g c told = let more = lists_entry c.args.profile (cells_of (view_by g.B.BlockStore.states c.args.view) c.args.body.now) c.steps.cursor c.steps.entries.items _
    c.in-Id.pieces c.in_ok-pieces.field-0 c.in-Ok-Some.entry (c.steps.invariant.fronting told) (c.in_ok-pieces.ensures.step told) c.in-Id.is (subst (IsListedIn (bytes_of c.in-Id.pieces)) c.in-Ok-Some.field-0-is c.in-Ok-Some.ensures.entry) in
    omega (arith, more)

pub steps-preserved-in-Continue-branch-4 : goal.steps-preserved-in-Continue-branch-4
steps-preserved-in-Continue-branch-4 g c = record {
  fronting = λ told. subst (λ (cs : List Cell). IsFronting c.args.profile (cells_of (view_by g.B.BlockStore.states c.args.view) c.args.body.now) cs c.put.new.entries.items)
      (sym (passed_by c.steps.cursor c.pass.new.self c.in_ok-pieces.field-0 c.in-Id.pieces c.len-size.result c.in-Id.is c.len-size.ensures c.in_ok-pass-in-Ok.ensures.moved))
      (front_listed c.args.profile (cells_of (view_by g.B.BlockStore.states c.args.view) c.args.body.now) c.steps.cursor c.steps.entries.items c.put.new.entries.items
      _ c.in-Id.pieces c.in_ok-pieces.field-0 c.in-Ok-Some.entry c.in-Ok-Some.field-0 (c.steps.invariant.fronting told) (c.in_ok-pieces.ensures.step told) c.in-Id.is c.in-Ok-Some.ensures.entry c.in-Ok-Some.field-0-is
      c.in-Ok.ensures);
  few = let e : length c.put.new.entries.items ≡ length c.steps.entries.items + 1 = ap length c.in-Ok.ensures ∙ length-append c.steps.entries.items (c.in-Ok-Some.entry ∷ []) in
      let h = c.if-len-most.false in omega (arith, e, h);
}
