use Rattle.std.proofs.Common.{subst, sym}
use Rattle.udfs_host_fs.specs.Disk.{Moved}
use Rattle.udfs_host_fs.specs.Told.{LogGoes, kept_by}
use Rattle.udfs_host_fs.proofs.machine.MachineFiles.rename.Goals as goal

pub returns-clause-crash : goal.returns-clause-crash
returns-clause-crash g c =
    let goes : LogGoes (g.C.Calls.log c.args.self.now.calls) (g.C.Calls.log c.heeded.new.self.calls) (Moved c.args.from.now c.args.to.now (kept_by (g.C.Calls.log c.args.self.now.calls) c.args.from.now)) =
    subst (λ calls. LogGoes (g.C.Calls.log c.args.self.now.calls) (g.C.Calls.log calls) (Moved c.args.from.now c.args.to.now (kept_by (g.C.Calls.log c.args.self.now.calls) c.args.from.now))) (sym c.heeded.ensures.calls) c.rename-outcome.ensures.crash in
    record { later = goes.later; now = goes.now; since = goes.since; keeps = goes.keeps }
