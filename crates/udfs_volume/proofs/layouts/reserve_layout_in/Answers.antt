use Rattle.std.proofs.Common.{sym, subst}
use Rattle.udfs_volume.specs.LayoutParts.{parts_now}
use Rattle.udfs_volume.specs.Seen.{Sees}
use Rattle.udfs_volume.specs.Sequence.{reserve_sequence_by}
use Rattle.udfs_volume.proofs.Told.{reserve_is}
use Rattle.udfs_volume.proofs.layouts.reserve_layout_in.Goals as goal

pub returns-clause-value : goal.returns-clause-value
returns-clause-value g c told =
    let t = g.B.BlockStore.states c.args.blocks.now in
    subst (Sees parts_now c.see_by.result) (sym (reserve_is c.args.profile t c.args.last))
    (c.see_by.ensures.value (reserve_sequence_by c.args.profile t c.args.last) (c.in_ok-seen.ensures.value told))
