use Rattle.udfs_host_fs.proofs.Logs.{folder_goes, same_then, unmade_goes}
use Rattle.udfs_host_fs.proofs.folders.make_folder.Goals as goal

pub returns-in-Ok-make_folder-clause-crash : goal.returns-in-Ok-make_folder-clause-crash
returns-in-Ok-make_folder-clause-crash g c =
    same_then (g.C.Calls.log c.args.calls.now) (g.C.Calls.log c.name_last.new.calls) (g.C.Calls.log c.make_folder.new.self) c.in-Ok.ensures.crash
    (folder_goes (g.C.Calls.log c.name_last.new.calls) (g.C.Calls.log c.make_folder.new.self) c.args.path.now c.in-Ok-make_folder.ensures.done)

pub returns-in-Err-make_folder-clause-crash : goal.returns-in-Err-make_folder-clause-crash
returns-in-Err-make_folder-clause-crash g c =
    same_then (g.C.Calls.log c.args.calls.now) (g.C.Calls.log c.name_last.new.calls) (g.C.Calls.log c.make_folder.new.self) c.in-Ok.ensures.crash
    (unmade_goes (g.C.Calls.log c.name_last.new.calls) (g.C.Calls.log c.make_folder.new.self) c.args.path.now c.in-Err-make_folder.ensures.failed)
