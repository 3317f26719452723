use Rattle.std.proofs.Common.{true, length, arith, sym, ap, ◌∙◌}
use Rattle.udfs_index.proofs.PackLemmas.{counted_none, counted_more, counted_same, all_packets}
use Rattle.udfs_index.proofs.packing.count_packets.Goals.{then-says, else-says}
use Rattle.udfs_index.proofs.packing.count_packets.Goals as goal

pub loop-index-init : goal.loop-index-init
loop-index-init c = record { few = omega arith; counted = λ wholes t shown. counted_none t }

pub loop-index-preserved : goal.loop-index-preserved
loop-index-preserved c =
    let few = c.loop-index.invariant.few in
    record {
      few = elim c.if-says.branch [ then-says w ↦ (let is = w.count-is in omega arith) | else-says w ↦ (let is = w.count-is in omega arith) ];
      counted = λ wholes t shown.
          elim c.if-says.branch [
            | then-says w ↦ w.count-is ∙ counted_more t c.loop-index.index c.loop-index.count true (sym w.if-says.true ∙ c.says.ensures wholes t shown) (c.loop-index.invariant.counted wholes t shown)
            | else-says w ↦ w.count-is ∙ counted_same t c.loop-index.index c.loop-index.count (sym w.if-says.false ∙ c.says.ensures wholes t shown) (c.loop-index.invariant.counted wholes t shown)
          ];
    }

pub returns : goal.returns
returns c wholes t shown = c.loop-index.invariant.counted wholes t shown ∙ ap length (all_packets t c.loop-index.index (let end = c.loop-index-test.false in let high = c.loop-index.auto.index-end in omega arith))
