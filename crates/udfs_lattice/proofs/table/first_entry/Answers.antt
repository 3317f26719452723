use Rattle.udfs_lattice.specs.States.{fact_now}
use Rattle.udfs_lattice.proofs.PacketLists.{found_first, passed_over, later_numbers}
use Rattle.udfs_lattice.proofs.table.first_entry.Goals as goal

pub returns-in-Some-first_from-clause-some : goal.returns-in-Some-first_from-clause-some
returns-in-Some-first_from-clause-some c = found_first c.args.packets.now c.loop-number.packets c.next.new.self c.in-Some.number.now c.in-Some.packet.now c.in-Some-first_from.place (fact_now c.in-Some-first_from.fact) c.loop-number.invariant.0 c.loop-number.invariant.1 c.in-Some.ensures.steps c.in-Some-first_from.ensures.some

pub loop-number-preserved : goal.loop-number-preserved
loop-number-preserved c = passed_over c.args.packets.now c.loop-number.packets c.next.new.self c.in-Some.number.now c.in-Some.packet.now c.loop-number.invariant.0 c.loop-number.invariant.1 c.in-Some.ensures.steps c.in_default-first_from.ensures.none

pub returns-in-Some-first_from-clause-later : goal.returns-in-Some-first_from-clause-later
returns-in-Some-first_from-clause-later c = later_numbers c.loop-number.packets c.next.new.self c.in-Some.number.now c.in-Some.packet.now c.loop-number.invariant.1 c.in-Some.ensures.steps
