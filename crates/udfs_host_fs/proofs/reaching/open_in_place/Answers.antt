use Rattle.udfs_host_fs.proofs.Logs.{opened_holds}
use Rattle.udfs_host_fs.proofs.Taken.{empty_contents}
use Rattle.udfs_host_fs.proofs.reaching.open_in_place.Goals as goal

pub returns-in-Ok-clause-empty : goal.returns-in-Ok-clause-empty
returns-in-Ok-clause-empty g c = λ tells. empty_contents (g.C.File.Opened.state c.in-Ok.file) (g.met.C.Calls.files_told tells c.in-Ok.file) c.in-Ok.ensures.empty

pub returns-in-Ok-clause-written : goal.returns-in-Ok-clause-written
returns-in-Ok-clause-written g c = opened_holds (g.C.Calls.log c.args.calls.now) _ c.args.path.now (g.met.C.Calls.lawful c.args.calls.now) c.in-Ok.ensures.made
