use Rattle.std.proofs.Common.{◌≢◌, [], sym, ◌∙◌}
use Rattle.udfs_lattice.specs.Volumes.{not_known}
use Rattle.udfs_volume.proofs.FirstAnchor.{some_unread, if_err}
use Rattle.udfs_volume.proofs.anchors.not_known.Goals as goal

pub returns-in_err-push-clause-memory : goal.returns-in_err-push-clause-memory
returns-in_err-push-clause-memory g c =
    let t = g.B.BlockStore.states c.args.blocks.now in
    if_err c.from_residual.result (g.B.BlockStore.tells → not_known t c.args.places.now ≢ [])
    (λ told. some_unread t c.loop-place.unread.items c.args.places.now c.loop-place.place-index c.loop-place-test.true (c.loop-place.invariant told)
    (sym (c.is_known.ensures told) ∙ c.if-not-is_known.true))
