use Rattle.std.proofs.Common.{◌∙◌, ap, sym, arith, length}
use Rattle.udfs_space.specs.Views.{view_by}
use Rattle.udfs_file.specs.Stretches.{cells_of}
use Rattle.udfs_walk.specs.Standings.{missing_blocks}
use Rattle.udfs_walk.specs.declared.standings.Standing.TheVariants.{Torn}
use Rattle.udfs_walk.proofs.FirstGaps.{known_before, missing_before, whole_by}
use Rattle.udfs_walk.proofs.KnownGaps.{all_known, ended, fewer_left, taken}
use Rattle.udfs_walk.proofs.gaps.bare_cells_standing.Goals as goal

pub runs-init : goal.runs-init
runs-init g c told = ap missing_blocks (sym c.knowledge_by-left.ensures)

pub runs-smaller : goal.runs-smaller
runs-smaller g c = let n = fewer_left (length c.runs.left) (length c.next.new.self) _ c.in-Some.told c.in-Some.is c.next.ensures.count in omega (arith, n)

pub runs-preserved : goal.runs-preserved
runs-preserved g c told =
    let first = taken c.runs.left c.next.new.self _ c.in-Some.told c.in-Some.is (c.next.ensures.gives told) in
    known_before (cells_of (view_by g.B.BlockStore.states c.args.view) c.args.body.now) c.runs.left c.next.new.self c.in-Some.told (c.runs.invariant told) first
    (all_known c.in-Some.told c.in-Known.field-0 _ c.in-Known.is first.knowledge)

pub returns-in-Missing : goal.returns-in-Missing
returns-in-Missing g c told =
    let first = taken c.runs.left c.next.new.self _ c.in-Some.told c.in-Some.is (c.next.ensures.gives told) in
    ap Torn c.no_lists.ensures
    ∙ missing_before (cells_of (view_by g.B.BlockStore.states c.args.view) c.args.body.now) c.runs.left c.next.new.self c.in-Some.told c.in-Missing.field-0 (c.runs.invariant told) first c.in-Missing.is

pub returns-in-None : goal.returns-in-None
returns-in-None g c told = whole_by (cells_of (view_by g.B.BlockStore.states c.args.view) c.args.body.now) c.runs.left (c.runs.invariant told)
    (ended c.runs.left c.next.new.self _ c.in-None.is (c.next.ensures.gives told))
