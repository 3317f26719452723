use Rattle.udfs_host_fs.proofs.Taken.{bytes_are_bytes}
use Rattle.udfs_host_fs.proofs.opened.MachineStoredStored.size.Goals as goal

pub returns-in_default-2-clause-bytes : goal.returns-in_default-2-clause-bytes
returns-in_default-2-clause-bytes g c = bytes_are_bytes (g.O.Opened.state c.args.self.now.file) (g.met.O.Opened.are_bytes c.args.self.now.file)
