use Rattle.udfs_host_fs.proofs.Logs.{absent_held, created_holds, created_numbered}
use Rattle.udfs_host_fs.proofs.Taken.{empty_contents}
use Rattle.udfs_host_fs.proofs.reaching.create.Goals as goal

pub returns-in-Ok-clause-number : goal.returns-in-Ok-clause-number
returns-in-Ok-clause-number g c = λ tells. created_numbered (g.C.Calls.log c.args.calls.now) _ (g.met.C.Calls.told tells c.args.calls.now) c.in-Ok.ensures.number

pub returns-in-Ok-clause-empty : goal.returns-in-Ok-clause-empty
returns-in-Ok-clause-empty g c = λ tells. empty_contents (g.C.File.Opened.state c.in-Ok.file) (g.met.C.Calls.files_told tells c.in-Ok.file) c.in-Ok.ensures.empty

pub returns-in-Ok-clause-absent : goal.returns-in-Ok-clause-absent
returns-in-Ok-clause-absent g c = λ tells. absent_held (g.C.Calls.log c.args.calls.now) c.args.path.now (g.met.C.Calls.told tells c.args.calls.now) c.in-Ok.ensures.absent

pub returns-in-Ok-clause-written : goal.returns-in-Ok-clause-written
returns-in-Ok-clause-written g c = created_holds (g.C.Calls.log c.args.calls.now) _ c.args.path.now (g.met.C.Calls.lawful c.args.calls.now) c.in-Ok.ensures.made
