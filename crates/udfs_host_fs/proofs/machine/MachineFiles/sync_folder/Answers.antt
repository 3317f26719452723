use Rattle.std.proofs.Common.{subst, sym}
use Rattle.udfs_host_fs.specs.Disk.{Same}
use Rattle.udfs_host_fs.specs.Told.{LogGoes}
use Rattle.udfs_host_fs.proofs.machine.MachineFiles.sync_folder.Goals as goal

pub returns-clause-crash : goal.returns-clause-crash
returns-clause-crash g c =
    let goes : LogGoes (g.C.Calls.log c.args.self.now.calls) (g.C.Calls.log c.heeded.new.self.calls) (Same) =
    subst (λ calls. LogGoes (g.C.Calls.log c.args.self.now.calls) (g.C.Calls.log calls) (Same)) (sym c.heeded.ensures.calls) c.sync_names-outcome.ensures.crash in
    record { later = goes.later; now = goes.now; since = goes.since; keeps = goes.keeps }
