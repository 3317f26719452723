use Rattle.std.proofs.Common.{refl, ap, length, arith}
use Rattle.udfs_space.specs.Views.{view_by}
use Rattle.udfs_file.specs.Stretches.{cells_of}
use Rattle.udfs_walk.proofs.BlockOrder.{none}
use Rattle.udfs_walk.proofs.KnownGaps.{ended, fewer_left, started, passed_all, known_more, taken}
use Rattle.udfs_walk.proofs.gaps.cells_standing.Goals as goal

pub runs-init : goal.runs-init
runs-init g c = record {
  leaves = λ told. started (cells_of (view_by g.B.BlockStore.states c.args.view) c.args.body.now) c.knowledge_by-left.result _ c.knowledge_by-left.ensures;
  place = let n = ap length c.knowledge_by-left.ensures in omega (arith, n);
}

pub runs-smaller : goal.runs-smaller
runs-smaller g c = let n = fewer_left (length c.runs.left) (length c.next.new.self) _ c.in-Some.told c.in-Some.is c.next.ensures.count in omega (arith, n)

pub runs-preserved : goal.runs-preserved
runs-preserved g c = record {
  leaves = λ told. let first = taken c.runs.left c.next.new.self _ c.in-Some.told c.in-Some.is (c.next.ensures.gives told) in
      known_more (cells_of (view_by g.B.BlockStore.states c.args.view) c.args.body.now) c.runs.left c.next.new.self c.in-Some.told _ c.runs.gaps c.pass.new.self first
      (c.runs.invariant.leaves told) c.in_ok-pass-in-Some.ensures.passes;
  place = let n = fewer_left (length c.runs.left) (length c.next.new.self) _ c.in-Some.told c.in-Some.is c.next.ensures.count in
      omega (arith, n, c.in_ok-pass-in-Some.ensures.place, c.runs.invariant.place);
}

pub returns-in-None : goal.returns-in-None
returns-in-None g c told = c.in_ok-standing-in-None.ensures _ (passed_all (cells_of (view_by g.B.BlockStore.states c.args.view) c.args.body.now) c.runs.left _ c.runs.gaps
    (ended c.runs.left c.next.new.self _ c.in-None.is (c.next.ensures.gives told)) (c.runs.invariant.leaves told) (none c.new.result.items (ap length c.new.ensures.items)) c.new-2.ensures.items refl refl)
