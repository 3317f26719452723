use Rattle.std.proofs.Common.{◌+◌, drop, subst, get_or, sym, arith}
use Rattle.std.proofs.lemmas.List.{drop_more}
use Rattle.udfs_index.specs.Slots.{AreSlotsForgotten}
use Rattle.udfs_index.proofs.SlotLemmas.{forgotten_first}
use Rattle.udfs_index.proofs.places.Places.forget_all.Goals as goal

pub loop-n-preserved : goal.loop-n-preserved
loop-n-preserved c = λ v h.
    let i = c.loop-n.n-index in
    let blocks = c.args.blocks.now in
    c.loop-n.invariant v (subst (λ ns. AreSlotsForgotten c.loop-n.self.packets.items ns v) (sym (drop_more blocks i 0 (omega arith)))
    (forgotten_first c.loop-n.self.packets.items c.forget.new.self.packets.items v (get_or blocks i 0) (drop (i + 1) blocks) c.forget.ensures h))
