use Rattle.udfs_host_fs.proofs.Taken.{read_some}
use Rattle.udfs_host_fs.proofs.opened.MachineInputSource.read.Goals as goal

pub returns-in-Some-clause-bytes : goal.returns-in-Some-clause-bytes
returns-in-Some-clause-bytes g c = read_some (g.O.Opened.state c.args.self.now.file) (g.O.Opened.state c.read.new.self) c.read.result c.in-Some.count c.read.new.buf c.in-Some.ensures.value c.read.ensures.value c.read.ensures.moves
