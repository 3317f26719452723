use Rattle.std.proofs.Common.{subst, sym}
use Rattle.udfs_calls.specs.Log.{moment_of}
use Rattle.udfs_host_fs.proofs.Going.{goes_wider}
use Rattle.udfs_host_fs.specs.Disk.{Gone, SameBut}
use Rattle.udfs_host_fs.specs.Told.{LogGoes, left_by, left_since_by}
use Rattle.udfs_host_fs.proofs.machine.MachineFiles.remove.Goals as goal

pub returns-clause-crash : goal.returns-clause-crash
returns-clause-crash g c =
    let goes : LogGoes (g.C.Calls.log c.args.self.now.calls) (g.C.Calls.log c.heeded.new.self.calls) (Gone c.args.path.now) =
    subst (λ calls. LogGoes (g.C.Calls.log c.args.self.now.calls) (g.C.Calls.log calls) (Gone c.args.path.now)) (sym c.heeded.ensures.calls) c.remove-outcome.ensures.crash in
    let wide = goes_wider moment_of left_by left_since_by _ _ (Gone c.args.path.now) (SameBut c.args.path.now) goes (λ d e gone. gone.others) in
    record { later = wide.later; now = wide.now; since = wide.since; keeps = wide.keeps }

pub returns-clause-either : goal.returns-clause-either
returns-clause-either g c =
    let goes : LogGoes (g.C.Calls.log c.args.self.now.calls) (g.C.Calls.log c.heeded.new.self.calls) (Gone c.args.path.now) =
    subst (λ calls. LogGoes (g.C.Calls.log c.args.self.now.calls) (g.C.Calls.log calls) (Gone c.args.path.now)) (sym c.heeded.ensures.calls) c.remove-outcome.ensures.crash in
    record { later = goes.later; now = goes.now; since = goes.since; keeps = goes.keeps }
