use Rattle.std.proofs.Common.{◌∷◌}
use Rattle.std.proofs.lemmas.Result.{err_from_is_err_and}
use Rattle.serde_json.specs.Written.{compact_text}
use Rattle.udfs_salvage.specs.JsonNodes.{hole_data}
use Rattle.udfs_salvage.proofs.Printed.{passed_piece, stopped_piece}
use Rattle.udfs_salvage.proofs.json_printing.put_more_holes.Goals as goal

pub returns-in_err-put_hole : goal.returns-in_err-put_hole
returns-in_err-put_hole g c =
    let p = err_from_is_err_and c.from_residual.result c.from_residual.ensures.1 in
    rw (p.1, p.2) (stopped_piece (λ x. 44 ∷ compact_text (hole_data x)) c.args.holes.now c.loop-hole.hole-index _ c.loop-hole-test.true c.loop-hole.invariant c.in_err-put_hole.ensures)

pub loop-hole-preserved : goal.loop-hole-preserved
loop-hole-preserved g c =
    passed_piece (λ x. 44 ∷ compact_text (hole_data x)) c.args.holes.now c.loop-hole.hole-index _ c.loop-hole-test.true c.loop-hole.invariant c.in_ok-put_hole.ensures
