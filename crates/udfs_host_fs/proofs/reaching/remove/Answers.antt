use Rattle.udfs_host_fs.proofs.Logs.{removed_held}
use Rattle.udfs_host_fs.proofs.reaching.remove.Goals as goal

pub returns-in-Ok-clause-gone : goal.returns-in-Ok-clause-gone
returns-in-Ok-clause-gone g c = λ tells. removed_held (g.C.Calls.log c.args.calls.now) _ c.args.path.now (g.met.C.Calls.told tells c.args.calls.now) c.in-Ok.ensures.done
