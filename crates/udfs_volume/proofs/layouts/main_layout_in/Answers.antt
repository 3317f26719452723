use Rattle.std.proofs.Common.{refl, sym, subst}
use Rattle.udfs_volume.specs.LayoutParts.{parts_now}
use Rattle.udfs_volume.specs.Seen.{Sees}
use Rattle.udfs_volume.specs.Sequence.{sequence_by}
use Rattle.udfs_volume.specs.declared.faults.VolumeFault.TheVariants.{NoAnchor, Extents}
use Rattle.udfs_volume.proofs.Told.{early_of_main, main_is}
use Rattle.udfs_volume.proofs.layouts.main_layout_in.Goals as goal

pub returns-clause-value : goal.returns-clause-value
returns-clause-value g c told =
    let t = g.B.BlockStore.states c.args.blocks.now in
    subst (Sees parts_now c.see_by.result) (sym (main_is c.args.profile t c.args.last))
    (c.see_by.ensures.value (sequence_by c.args.profile t c.args.last) (c.in_ok-seen.ensures.value told))

pub returns-clause-no_anchor : goal.returns-clause-no_anchor
returns-clause-no_anchor g c told e = c.see_by.ensures.fault NoAnchor
    (c.in_ok-seen.ensures.no_anchor told (early_of_main c.args.profile (g.B.BlockStore.states c.args.blocks.now) c.args.last NoAnchor refl e))

pub returns-clause-extents : goal.returns-clause-extents
returns-clause-extents g c told e = c.see_by.ensures.fault Extents
    (c.in_ok-seen.ensures.extents told (early_of_main c.args.profile (g.B.BlockStore.states c.args.blocks.now) c.args.last Extents refl e))
