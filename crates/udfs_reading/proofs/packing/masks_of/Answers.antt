use Rattle.std.proofs.Common.{◌+◌, rules}
use Rattle.udfs_lattice.specs.States.{fact_now, is_known, is_conflict}
use Rattle.udfs_reading.proofs.PacketWriting.{mask_none, mask_fits, mask_step}
use Rattle.udfs_reading.proofs.packing.masks_of.Goals as goal

pub loop-place-init : goal.loop-place-init
loop-place-init c = record { within = search rules; known = mask_none is_known c.args.table.now (c.args.first + 32); conflict = mask_none is_conflict c.args.table.now (c.args.first + 32) }

pub with_bit-masks-requires-clause-known : goal.with_bit-masks-requires-clause-known
with_bit-masks-requires-clause-known c = mask_fits is_known c.args.table.now (c.args.first + c.loop-place.place) c.loop-place.place c.loop-place.masks.known (search rules) c.loop-place.invariant.within c.loop-place.invariant.known

pub with_bit-masks-requires-clause-conflict : goal.with_bit-masks-requires-clause-conflict
with_bit-masks-requires-clause-conflict c = mask_fits is_conflict c.args.table.now (c.args.first + c.loop-place.place) c.loop-place.place c.loop-place.masks.conflict (search rules) c.loop-place.invariant.within c.loop-place.invariant.conflict

pub loop-place-preserved : goal.loop-place-preserved
loop-place-preserved c =
    let s = fact_now c.state.result in
    record {
      within = search rules;
      known = mask_step is_known c.args.table.now c.args.first c.loop-place.place c.loop-place.masks.known c.with_bit-masks.result.known s (search rules) c.loop-place.invariant.within c.loop-place.invariant.known c.state.ensures.state c.with_bit-masks.ensures.known;
      conflict = mask_step is_conflict c.args.table.now c.args.first c.loop-place.place c.loop-place.masks.conflict c.with_bit-masks.result.conflict s (search rules) c.loop-place.invariant.within c.loop-place.invariant.conflict c.state.ensures.state c.with_bit-masks.ensures.conflict;
    }
