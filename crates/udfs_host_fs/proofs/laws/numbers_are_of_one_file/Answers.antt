use Rattle.udfs_host_fs.proofs.Leading.{one_file, one_number}
use Rattle.udfs_host_fs.proofs.laws.numbers_are_of_one_file.Goals as goal

pub returns-clause-one : goal.returns-clause-one
returns-clause-one g c tells p q =
    let calls = c.args.calls.now in
    one_file (g.C.Calls.log calls) (g.C.Calls.identity calls) p q (g.met.C.Calls.told tells calls) (g.met.C.Calls.told_apart tells calls p q)

pub returns-clause-same : goal.returns-clause-same
returns-clause-same g c tells p q = one_number (g.C.Calls.log c.args.calls.now) (g.C.Calls.identity c.args.calls.now) p q (g.met.C.Calls.told tells c.args.calls.now)
