use Rattle.std.proofs.Common.{ℕ, ◌/◌, ◌∙◌}
use Rattle.std.proofs.lemmas.Result.{err_from_is_err_and}
use Rattle.udfs_lattice.specs.States.{State, fact_now}
use Rattle.udfs_reading.specs.PacketFile.{packet_magic}
use Rattle.udfs_reading.proofs.WritingLemmas.{passed_none}
use Rattle.udfs_reading.proofs.PacketTables.{below_none}
use Rattle.udfs_reading.proofs.PacketWalk.{walk_none, walk_same, packet_there, walk_next, walk_end}
use Rattle.udfs_reading.proofs.PacketWriting.{header_failed, packets_passed, packets_failed, packets_written}
use Rattle.udfs_reading.proofs.packing.write_packets.Goals as goal

pub returns-in_err-write_header : goal.returns-in_err-write_header
unfolding packet_magic
returns-in_err-write_header g c =
    let p = err_from_is_err_and c.from_residual.result c.from_residual.ensures.1 in
    rw p.1 (header_failed c.args.table.now c.count_packets-count.result c.count_packets-count.ensures c.in_err-write_header.ensures)

pub loop-block-init : goal.loop-block-init
loop-block-init g c =
    record {
      walk = walk_none c.args.table.now c.into_iter-block-iterator.result c.entries-block-items.ensures.table (c.into_iter-block-iterator.ensures.into_iter_gives ∙ c.entries-block-items.ensures.entries);
      passed = rw (below_none c.args.table.now) (passed_none _ _);
    }

pub returns-in_err-write_packet : goal.returns-in_err-write_packet
unfolding packet_magic
returns-in_err-write_packet g c =
    let p = err_from_is_err_and c.from_residual-in_err-write_packet.result c.from_residual-in_err-write_packet.ensures.1 in
    let t = c.args.table.now in
    let e : ℕ × State = (c.in-Some.block, fact_now c.in-Some.field-0-1) in
    let next = walk_next t c.loop-block.block-iterator c.next.new.self e c.loop-block.next c.in-Some.ensures.steps c.if-block-next.true c.loop-block.invariant.walk in
    let there = packet_there t c.loop-block.block-iterator c.next.new.self e c.loop-block.next c.in-Some.ensures.steps c.loop-block.invariant.walk in
    rw p.1 (packets_failed t c.count_packets-count.result c.loop-block.next (c.in-Some.block / 32) there c.count_packets-count.ensures next.1 c.in_ok-write_header.ensures c.loop-block.invariant.passed c.in_err-write_packet.ensures)

pub loop-block-preserved-then-block-next : goal.loop-block-preserved-then-block-next
loop-block-preserved-then-block-next g c =
    let t = c.args.table.now in
    let next = walk_next t c.loop-block.block-iterator c.next.new.self (c.in-Some.block, fact_now c.in-Some.field-0-1) c.loop-block.next c.in-Some.ensures.steps c.if-block-next.true c.loop-block.invariant.walk in
    record {
      walk = next.0;
      passed = packets_passed t c.loop-block.next (c.in-Some.block / 32) next.1 c.loop-block.invariant.passed c.in_ok-write_packet.ensures;
    }

pub loop-block-preserved : goal.loop-block-preserved
loop-block-preserved g c =
    record {
      walk = walk_same c.args.table.now c.loop-block.block-iterator c.next.new.self (c.in-Some.block, fact_now c.in-Some.field-0-1) c.loop-block.next c.in-Some.ensures.steps c.if-block-next.false c.loop-block.invariant.walk;
      passed = c.loop-block.invariant.passed;
    }

pub returns : goal.returns
unfolding packet_magic
returns g c =
    packets_written c.args.table.now c.count_packets-count.result c.loop-block.next c.count_packets-count.ensures (walk_end c.args.table.now c.loop-block.block-iterator c.loop-block.next c.in-None.ensures.steps.0 c.loop-block.invariant.walk) c.in_ok-write_header.ensures c.loop-block.invariant.passed
