use Rattle.udfs_host_fs.proofs.Leading.{named_file}
use Rattle.udfs_host_fs.proofs.resolving.what_is_at.Goals as goal

pub returns-in-Ok-serves-clause-file : goal.returns-in-Ok-serves-clause-file
returns-in-Ok-serves-clause-file g c regular tells =
    let calls = c.args.calls.now in
    named_file (g.C.Calls.log calls) (g.C.Calls.identity calls) (g.C.Calls.real calls c.args.path.now) c.in-Ok.about.device c.in-Ok.about.inode (g.met.C.Calls.told tells calls)
    c.in-Ok.ensures.there (λ node names. c.in-Ok.ensures.same node names tells)
