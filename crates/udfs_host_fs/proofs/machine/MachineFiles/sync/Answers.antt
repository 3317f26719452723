use Rattle.std.proofs.Common.{subst, sym}
use Rattle.udfs_calls.specs.Log.{moment_of}
use Rattle.udfs_host_fs.proofs.Going.{goes_wider}
use Rattle.udfs_host_fs.specs.Disk.{Same, SameBut}
use Rattle.udfs_host_fs.specs.Told.{LogGoes, left_by, left_since_by}
use Rattle.udfs_host_fs.proofs.machine.MachineFiles.sync.Goals as goal

pub returns-clause-crash : goal.returns-clause-crash
returns-clause-crash g c =
    let goes : LogGoes (g.C.Calls.log c.args.self.now.calls) (g.C.Calls.log c.heeded.new.self.calls) (Same) =
    subst (λ calls. LogGoes (g.C.Calls.log c.args.self.now.calls) (g.C.Calls.log calls) (Same)) (sym c.heeded.ensures.calls) c.sync_output-outcome.ensures.crash in
    let wide = goes_wider moment_of left_by left_since_by _ _ (Same) (SameBut c.args.path.now) goes (λ d e same q other. same q) in
    record { later = wide.later; now = wide.now; since = wide.since; keeps = wide.keeps }
