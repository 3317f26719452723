use Rattle.udfs_host_fs.proofs.Logs.{named_goes, same_then, unnamed_goes}
use Rattle.udfs_host_fs.proofs.folders.sync_named.Goals as goal

pub returns-in-Ok-sync_folder-clause-crash : goal.returns-in-Ok-sync_folder-clause-crash
returns-in-Ok-sync_folder-clause-crash g c =
    same_then (g.C.Calls.log c.args.calls.now) (g.C.Calls.log c.name_this.new.calls) (g.C.Calls.log c.sync_folder.new.calls) c.in-Ok.ensures.crash
    (named_goes (g.C.Calls.log c.name_this.new.calls) (g.C.Calls.log c.sync_folder.new.calls) c.args.folder.now c.in-Ok-sync_folder.ensures.done)

pub returns-in-Err-sync_folder-clause-crash : goal.returns-in-Err-sync_folder-clause-crash
returns-in-Err-sync_folder-clause-crash g c =
    same_then (g.C.Calls.log c.args.calls.now) (g.C.Calls.log c.name_this.new.calls) (g.C.Calls.log c.sync_folder.new.calls) c.in-Ok.ensures.crash
    (unnamed_goes (g.C.Calls.log c.name_this.new.calls) (g.C.Calls.log c.sync_folder.new.calls) c.args.folder.now c.in-Err-sync_folder.ensures.failed)
