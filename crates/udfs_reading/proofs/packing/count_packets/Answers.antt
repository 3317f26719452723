use Rattle.std.proofs.Common.{◌/◌, List, length, arith, sym, ap, ◌∙◌}
use Rattle.udfs_lattice.specs.States.{fact_now}
use Rattle.udfs_reading.specs.PacketFile.{Packet}
use Rattle.udfs_reading.proofs.PacketTables.{below_none, few_below}
use Rattle.udfs_reading.proofs.PacketWalk.{walk_none, walk_same, walk_next, walk_end}
use Rattle.udfs_reading.proofs.PacketWriting.{packets_counted}
use Rattle.udfs_reading.proofs.packing.count_packets.Goals as goal

pub loop-block-init : goal.loop-block-init
loop-block-init c =
    record {
      is_table = c.entries-block-items.ensures.table;
      walk = walk_none c.args.table.now c.into_iter-block-iterator.result c.entries-block-items.ensures.table (c.into_iter-block-iterator.ensures.into_iter_gives ∙ c.entries-block-items.ensures.entries);
      counted = sym (ap length (below_none c.args.table.now));
    }

pub overflow_add-count : goal.overflow_add-count
overflow_add-count c =
    let few = few_below c.args.table.now c.loop-block.next c.loop-block.invariant.walk.within c.loop-block.invariant.is_table in
    let within = c.loop-block.invariant.walk.within in
    let counted = c.loop-block.invariant.counted in
    omega arith

pub loop-block-preserved-then-block-next : goal.loop-block-preserved-then-block-next
loop-block-preserved-then-block-next c =
    let t = c.args.table.now in
    let next = walk_next t c.loop-block.block-iterator c.next.new.self (c.in-Some.block, fact_now c.in-Some.field-0-1) c.loop-block.next c.in-Some.ensures.steps c.if-block-next.true c.loop-block.invariant.walk in
    record {
      is_table = c.loop-block.invariant.is_table;
      walk = next.0;
      counted = packets_counted t c.loop-block.next (c.in-Some.block / 32) c.loop-block.count next.1 c.loop-block.invariant.counted;
    }

pub loop-block-preserved : goal.loop-block-preserved
loop-block-preserved c =
    record {
      is_table = c.loop-block.invariant.is_table;
      walk = walk_same c.args.table.now c.loop-block.block-iterator c.next.new.self (c.in-Some.block, fact_now c.in-Some.field-0-1) c.loop-block.next c.in-Some.ensures.steps c.if-block-next.false c.loop-block.invariant.walk;
      counted = c.loop-block.invariant.counted;
    }

pub returns : goal.returns
returns c = c.loop-block.invariant.counted ∙ ap (λ (l : List Packet). length l) (sym (walk_end c.args.table.now c.loop-block.block-iterator c.loop-block.next c.in-None.ensures.steps.0 c.loop-block.invariant.walk))
