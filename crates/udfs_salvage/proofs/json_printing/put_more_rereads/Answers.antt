use Rattle.std.proofs.Common.{◌∷◌}
use Rattle.std.proofs.lemmas.Result.{err_from_is_err_and}
use Rattle.serde_json.specs.Written.{compact_text}
use Rattle.udfs_salvage.specs.JsonReports.{reread_data}
use Rattle.udfs_salvage.proofs.Printed.{passed_piece, stopped_piece}
use Rattle.udfs_salvage.proofs.json_printing.put_more_rereads.Goals as goal

pub returns-in_err-put_reread : goal.returns-in_err-put_reread
returns-in_err-put_reread g c told =
    let p = err_from_is_err_and c.from_residual.result c.from_residual.ensures.1 in
    rw (p.1, p.2) (stopped_piece (λ x. 44 ∷ compact_text ((reread_data (g.B.BlockStore.states c.args.blocks.now)) x)) c.args.numbers.now c.loop-block.block-index 0 c.loop-block-test.true (c.loop-block.invariant told) (c.in_err-put_reread.ensures told))

pub loop-block-preserved : goal.loop-block-preserved
loop-block-preserved g c told =
    passed_piece (λ x. 44 ∷ compact_text ((reread_data (g.B.BlockStore.states c.args.blocks.now)) x)) c.args.numbers.now c.loop-block.block-index 0 c.loop-block-test.true (c.loop-block.invariant told) (c.in_ok-put_reread.ensures told)
