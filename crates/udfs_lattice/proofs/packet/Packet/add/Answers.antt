use Rattle.std.proofs.lemmas.Result.{on_ok_weaker}
use Rattle.udfs_lattice.specs.TableLaws.{join_tables-from_added, join_tables-empty_right}
use Rattle.std.proofs.Common.{sym}
use Rattle.udfs_lattice.specs.declared.facts.Fact.TheVariants.{Known, Conflict}
use Rattle.udfs_lattice.proofs.PacketWrites.{added_conflict}
use Rattle.udfs_lattice.proofs.packet.Packet.add.Goals as goal

pub returns-in-Unknown-clause-ok : goal.returns-in-Unknown-clause-ok
returns-in-Unknown-clause-ok c = rw c.in-Unknown.is (sym (join_tables-empty_right c.args.self.now))

pub returns-in-Known-clause-ok : goal.returns-in-Known-clause-ok
returns-in-Known-clause-ok c = rw c.in-Known.is (on_ok_weaker c.add_bytes.result (join_tables-from_added c.args.self.now c.args.i (Known c.in-Known.bytes.now) c.add_bytes.new.self) c.add_bytes.ensures.ok)

pub returns-in-Conflict-clause-ok : goal.returns-in-Conflict-clause-ok
returns-in-Conflict-clause-ok c = rw c.in-Conflict.is (join_tables-from_added c.args.self.now c.args.i Conflict c.dispute.new.self (added_conflict c.args.self.now c.dispute.new.self c.args.i c.dispute.ensures))
