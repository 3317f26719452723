use Rattle.std.proofs.Common.{sym, refl, ◌∙◌, ◌/◌}
use Rattle.udfs_lattice.proofs.PacketTables.{state_in_packet, unknown_packet, IsTable-view}
use Rattle.udfs_lattice.proofs.table.BlockTable.state.Goals as goal

pub returns-in-Some-clause-state : goal.returns-in-Some-clause-state
returns-in-Some-clause-state c = c.state.ensures.state ∙ sym (state_in_packet c.self.inside.packets c.args.self.now c.args.n c.in-Some.packet.now c.self.invariant c.self.view_is c.in-Some.ensures.value)

pub returns-in-Some-clause-table : goal.returns-in-Some-clause-table
returns-in-Some-clause-table c = IsTable-view c.self.inside.packets c.args.self.now c.self.invariant c.self.view_is

pub returns-in-None-clause-state : goal.returns-in-None-clause-state
returns-in-None-clause-state c = sym (unknown_packet c.self.inside.packets c.args.self.now (c.args.n / 32) c.self.invariant c.self.view_is c.in-None.ensures.value c.args.n refl)

pub returns-in-None-clause-table : goal.returns-in-None-clause-table
returns-in-None-clause-table c = IsTable-view c.self.inside.packets c.args.self.now c.self.invariant c.self.view_is
