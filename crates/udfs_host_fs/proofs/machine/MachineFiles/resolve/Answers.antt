use Rattle.udfs_host_fs.proofs.Leading.{led_absent, led_file}
use Rattle.udfs_host_fs.proofs.machine.MachineFiles.resolve.Goals as goal

pub returns-clause-absent : goal.returns-clause-absent
returns-clause-absent g c =
    led_absent (g.C.Calls.log c.args.self.now.calls) (g.C.Calls.real c.args.self.now.calls) (g.C.Calls.identity c.args.self.now.calls) (g.C.Calls.in_place c.args.self.now.calls) c.args.path.now g.C.Calls.tells
    (λ tells. g.met.C.Calls.told tells c.args.self.now.calls) c.resolve.result c.resolve.ensures

pub returns-clause-same : goal.returns-clause-same
returns-clause-same g c =
    led_file (g.C.Calls.log c.args.self.now.calls) (g.C.Calls.real c.args.self.now.calls) (g.C.Calls.identity c.args.self.now.calls) (g.C.Calls.in_place c.args.self.now.calls) c.args.path.now g.C.Calls.tells
    c.resolve.result c.resolve.ensures
