use Rattle.udfs_lattice.proofs.PacketTables.{inserted}
use Rattle.udfs_lattice.proofs.table.BlockTable.insert.Goals as goal

pub returns-clause-ok : goal.returns-clause-ok
returns-clause-ok c = inserted c.self.inside.packets c.insert.new.self c.args.number c.args.packet c.args.self.now c.self.invariant.each c.self.view_is c.requires.missing c.in_ok-insert.ensures.updates c.requires.number c.requires.packet
