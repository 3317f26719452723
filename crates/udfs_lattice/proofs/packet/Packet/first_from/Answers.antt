use Rattle.std.proofs.Common.{◌∙◌, ◌≤◌, arith}
use Rattle.udfs_lattice.specs.Packets.{entries_left}
use Rattle.udfs_lattice.proofs.PacketEntries.{first_left, none_here, entries_left-done}
use Rattle.udfs_lattice.proofs.packet.Packet.first_from.Goals as goal

pub returns-in_default : goal.returns-in_default
returns-in_default c = record {
  some = (c.loop-i-test.true, first_left c.args.self.now c.loop-i.i c.state.result (entries_left c.args.self.now c.args.at) c.loop-i-test.true c.state.ensures.state c.in_default.not-Unknown c.loop-i.invariant);
  none = tt;
}

pub loop-i-preserved : goal.loop-i-preserved
loop-i-preserved c = none_here c.args.self.now c.loop-i.i (entries_left c.args.self.now c.args.at) c.loop-i-test.true c.in-Unknown.ensures.state c.loop-i.invariant

pub returns-clause-none : goal.returns-clause-none
returns-clause-none c =
    let end : 32 ≤ c.loop-i.i = omega (arith, c.loop-i-test.false) in
    c.loop-i.invariant ∙ entries_left-done c.args.self.now c.loop-i.i end
