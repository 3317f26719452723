use Rattle.std.proofs.Common.{◌≡◌, length, arith, sym, ap, ◌∙◌}
use Rattle.udfs_index.specs.Places.{state_by}
use Rattle.udfs_index.proofs.EntryLemmas.{counted_none, counted_step, entries_below, said_entries}
use Rattle.udfs_index.specs.Slots.{Slot}
use Rattle.udfs_index.proofs.entries.count_entries.Goals as goal

pub loop-block-init : goal.loop-block-init
loop-block-init c = record { few = omega arith; counted = λ wholes t shown. counted_none t }

pub loop-block-preserved : goal.loop-block-preserved
loop-block-preserved c =
    let few = c.loop-block.invariant.few in
    record {
      few = let most = c.entries_in-count.ensures.most in omega (arith, few, most);
      counted = λ wholes t shown.
          counted_step t c.loop-block.block c.loop-block.count c.entries_in-count.result (state_by wholes c.slot_of.result) (shown c.loop-block.block ∙ ap (λ (s : Slot). state_by wholes s) (sym c.slot_of.ensures)) (c.entries_in-count.ensures.count wholes c.loop-block.block) (c.loop-block.invariant.counted wholes t shown);
    }

pub returns : goal.returns
returns c wholes t is shown =
    let end = c.loop-block-test.false in
    let high = c.loop-block.auto.block-end in
    let last : c.loop-block.block ≡ c.end_of-end.result = omega arith in
    c.loop-block.invariant.counted wholes t shown ∙ ap length (ap (entries_below t) last ∙ said_entries wholes c.args.packets.now t c.end_of-end.result is shown c.end_of-end.ensures.most c.end_of-end.ensures.rest)
