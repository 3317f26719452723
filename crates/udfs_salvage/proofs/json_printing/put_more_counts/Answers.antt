use Rattle.std.proofs.Common.{◌∷◌}
use Rattle.std.proofs.lemmas.Result.{err_from_is_err_and}
use Rattle.serde_json.specs.Written.{compact_text}
use Rattle.udfs_salvage.specs.JsonNodes.{count}
use Rattle.udfs_salvage.proofs.Printed.{passed_piece, stopped_piece}
use Rattle.udfs_salvage.proofs.json_printing.put_more_counts.Goals as goal

pub returns-in_err-put_count : goal.returns-in_err-put_count
returns-in_err-put_count g c =
    let p = err_from_is_err_and c.from_residual.result c.from_residual.ensures.1 in
    rw (p.1, p.2) (stopped_piece (λ x. 44 ∷ compact_text (count x)) c.args.blocks.now c.loop-block.block-index 0 c.loop-block-test.true c.loop-block.invariant c.in_err-put_count.ensures)

pub loop-block-preserved : goal.loop-block-preserved
loop-block-preserved g c =
    passed_piece (λ x. 44 ∷ compact_text (count x)) c.args.blocks.now c.loop-block.block-index 0 c.loop-block-test.true c.loop-block.invariant c.in_ok-put_count.ensures
