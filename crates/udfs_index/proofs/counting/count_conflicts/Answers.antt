use Rattle.std.proofs.Common.{◌≡◌, ◌+◌, true, false, arith, refl, sym, ap, ◌∙◌}
use Rattle.udfs_lattice.specs.States.{is_conflict}
use Rattle.udfs_index.specs.Places.{state_by}
use Rattle.udfs_index.specs.Slots.{slot_at}
use Rattle.udfs_index.proofs.EntryLemmas.{entries_below, said_entries, tallied_none, tallied_more, tallied_all}
use Rattle.udfs_index.proofs.PackLemmas.{disputed_state}
use Rattle.udfs_index.proofs.counting.count_conflicts.Goals.{then-is_conflict, else-is_conflict}
use Rattle.udfs_index.proofs.counting.count_conflicts.Goals as goal

pub loop-block-init : goal.loop-block-init
loop-block-init c = record { few = omega arith; counted = λ wholes t shown. tallied_none is_conflict t }

pub loop-block-preserved : goal.loop-block-preserved
loop-block-preserved c =
    let few = c.loop-block.invariant.few in
    record {
      few = elim c.if-is_conflict.branch [ then-is_conflict w ↦ (let is = w.count-is in omega arith) | else-is_conflict w ↦ (let is = w.count-is in omega arith) ];
      counted = λ wholes t shown.
          let s = state_by wholes (slot_at c.args.packets.now c.loop-block.block) in
          let so = sym (disputed_state wholes (slot_at c.args.packets.now c.loop-block.block)) in
          elim c.if-is_conflict.branch [
            | then-is_conflict w ↦ w.count-is ∙ tallied_more is_conflict t c.loop-block.block c.loop-block.count s true refl (shown c.loop-block.block) (so ∙ sym c.is_conflict.ensures ∙ w.if-is_conflict.true) (c.loop-block.invariant.counted wholes t shown)
            | else-is_conflict w ↦ w.count-is ∙ (let z : c.loop-block.count ≡ c.loop-block.count + 0 = omega arith in z) ∙ tallied_more is_conflict t c.loop-block.block c.loop-block.count s false refl (shown c.loop-block.block) (so ∙ sym c.is_conflict.ensures ∙ w.if-is_conflict.false) (c.loop-block.invariant.counted wholes t shown)
          ];
    }

pub returns : goal.returns
returns c wholes t is shown =
    let end = c.loop-block-test.false in
    let high = c.loop-block.auto.block-end in
    let last : c.loop-block.block ≡ c.end_of-end.result = omega arith in
    c.loop-block.invariant.counted wholes t shown ∙ tallied_all is_conflict t c.loop-block.block (ap (entries_below t) last ∙ said_entries wholes c.args.packets.now t c.end_of-end.result is shown c.end_of-end.ensures.most c.end_of-end.ensures.rest)
