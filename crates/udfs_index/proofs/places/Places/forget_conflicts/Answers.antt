use Rattle.std.proofs.Common.{◌<◌, ◌≤◌, arith, length, refl, rules}
use Rattle.std.proofs.lemmas.Option.{slice_get_read}
use Rattle.udfs_index.proofs.SlotLemmas.{settled_all, settled_more, settled_none}
use Rattle.udfs_index.proofs.places.Places.forget_conflicts.Goals as goal

pub loop-number-init : goal.loop-number-init
loop-number-init c = settled_none c.args.self.now.packets.items

pub loop-number-preserved : goal.loop-number-preserved
loop-number-preserved c =
    let size = c.loop-number.invariant.size in
    let within : c.loop-number.number < length c.loop-number.self.packets.items = search rules in
    settled_more c.args.self.now.packets.items c.loop-number.self.packets.items c.loop-number.number c.index_mut.result.now c.forget_conflicts.new.self within
    (slice_get_read _ _ _ _ refl within c.index_mut.ensures.value) c.forget_conflicts.ensures c.loop-number.invariant

pub returns : goal.returns
returns c =
    let size = c.loop-number.invariant.size in
    let end : length c.args.self.now.packets.items ≤ c.loop-number.number = search rules in
    settled_all c.args.self.now.packets.items c.loop-number.self.packets.items c.loop-number.number end c.loop-number.invariant
