use Rattle.std.proofs.Common.{subst, sym}
use Rattle.udfs_host_fs.specs.Disk.{SameBut}
use Rattle.udfs_host_fs.specs.Told.{LogGoes}
use Rattle.udfs_host_fs.proofs.machine.MachineFiles.make.Goals as goal

pub returns-clause-crash : goal.returns-clause-crash
returns-clause-crash g c =
    let goes : LogGoes (g.C.Calls.log c.args.self.now.calls) (g.C.Calls.log c.heeded.new.self.calls) (SameBut c.args.path.now) =
    subst (λ calls. LogGoes (g.C.Calls.log c.args.self.now.calls) (g.C.Calls.log calls) (SameBut c.args.path.now)) (sym c.heeded.ensures.calls) c.open_in_place-outcome.ensures.crash in
    record { later = goes.later; now = goes.now; since = goes.since; keeps = goes.keeps }
