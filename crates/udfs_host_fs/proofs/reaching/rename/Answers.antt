use Rattle.udfs_host_fs.proofs.Logs.{kept_same, renamed_away, renamed_held}
use Rattle.udfs_host_fs.proofs.reaching.rename.Goals as goal

pub returns-in-Ok-rename-clause-gone : goal.returns-in-Ok-rename-clause-gone
returns-in-Ok-rename-clause-gone g c = λ tells. renamed_away (g.C.Calls.log c.args.calls.now) _ c.args.from.now c.args.to.now (g.met.C.Calls.told tells c.args.calls.now) c.requires c.in-Ok-rename.ensures.done

pub returns-in-Ok-rename-clause-durable : goal.returns-in-Ok-rename-clause-durable
returns-in-Ok-rename-clause-durable g c = λ left kept.
    kept_same (g.C.Calls.log c.args.calls.now) (g.C.Calls.log c.rename.new.self) c.args.to.now c.args.from.now left (renamed_held (g.C.Calls.log c.args.calls.now) (g.C.Calls.log c.rename.new.self) c.args.from.now c.args.to.now c.requires c.in-Ok-rename.ensures.done) kept
