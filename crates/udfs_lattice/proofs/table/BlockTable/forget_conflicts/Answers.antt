use Rattle.std.proofs.Common.{◌≤◌, arith}
use Rattle.udfs_lattice.proofs.PacketTables.{IsTable-view}
use Rattle.udfs_lattice.proofs.Forgetting.{settled_none, settled_more, settled_all}
use Rattle.udfs_lattice.proofs.table.BlockTable.forget_conflicts.Goals as goal

pub loop-number-init : goal.loop-number-init
loop-number-init c = settled_none c.args.self.now

pub loop-number-preserved : goal.loop-number-preserved
loop-number-preserved c = settled_more c.args.self.now c.loop-number.self c.settle.new.self c.loop-number.number c.loop-number.invariant c.settle.ensures

pub returns : goal.returns
returns c =
    let end : 131072 ≤ c.loop-number.number = omega (arith, c.loop-number-test.false) in
    settled_all c.args.self.now c.loop-number.self c.loop-number.number (IsTable-view c.self.inside.packets c.args.self.now c.self.invariant c.self.view_is) end c.loop-number.invariant
