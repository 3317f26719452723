use Rattle.std.proofs.Common.{ℕ, ◌*◌, List, subst}
use Rattle.std.specs.List.{flat_map}
use Rattle.std.proofs.lemmas.Result.{err_from_is_err_and}
use Rattle.udfs_reading.specs.PacketFile.{content, states_from}
use Rattle.udfs_reading.specs.Writing.{FailedPast}
use Rattle.udfs_reading.proofs.WritingLemmas.{failed_more}
use Rattle.udfs_index.specs.Copying.{CopiesPast}
use Rattle.udfs_index.proofs.CopyLemmas.{copies_then}
use Rattle.udfs_index.proofs.PackLemmas.{packet_spelled}
use Rattle.udfs_index.proofs.packing.write_packet.Goals as goal

pub returns-in_err-put_masks-clause-bytes : goal.returns-in_err-put_masks-clause-bytes
returns-in_err-put_masks-clause-bytes g c wholes t told shown =
    let p = err_from_is_err_and c.from_residual.result c.from_residual.ensures.1 in
    let blocks = flat_map content (states_from t (32 * c.args.index) 32) in
    rw (p.1, p.2) (subst (FailedPast _ _ _) (packet_spelled t c.args.index c.masks_of-known.result.0 c.masks_of-known.result.1 (c.masks_of-known.ensures.known wholes t shown) (c.masks_of-known.ensures.conflict wholes t shown)) (failed_more blocks c.in_err-put_masks.ensures))

pub returns-clause-bytes : goal.returns-clause-bytes
returns-clause-bytes g c wholes t told shown =
    subst (λ (l : List ℕ). CopiesPast (g.W.Sink.stream c.args.sink.now) (g.W.Sink.stream c.write_blocks.new.sink) c.args.out.now c.write_blocks.new.out l c.write_blocks.result)
    (packet_spelled t c.args.index c.masks_of-known.result.0 c.masks_of-known.result.1 (c.masks_of-known.ensures.known wholes t shown) (c.masks_of-known.ensures.conflict wholes t shown))
    (copies_then _ _ _ _ _ _ _ _ c.write_blocks.result c.in_ok-put_masks.ensures (c.write_blocks.ensures.bytes wholes t told shown))
