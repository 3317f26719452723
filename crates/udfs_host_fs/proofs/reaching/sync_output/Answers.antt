use Rattle.udfs_host_fs.proofs.Logs.{kept_bytes, synced_elsewhere, synced_holds}
use Rattle.udfs_host_fs.proofs.reaching.sync_output.Goals as goal

pub returns-in-Ok-clause-holds : goal.returns-in-Ok-clause-holds
returns-in-Ok-clause-holds g c = λ bytes tells numbered told.
    synced_holds (g.C.Calls.log c.args.calls.now) _ c.args._path.now _ _ bytes (g.met.C.Calls.told tells c.args.calls.now) numbered c.requires.at c.in-Ok.ensures.done told

pub returns-in-Ok-clause-durable : goal.returns-in-Ok-clause-durable
returns-in-Ok-clause-durable g c = λ bytes left tells numbered told kept.
    kept_bytes (g.C.Calls.log c.sync_whole.new.calls) c.args._path.now bytes left (returns-in-Ok-clause-holds g c bytes tells numbered told) kept

pub returns-in-Ok-clause-others : goal.returns-in-Ok-clause-others
returns-in-Ok-clause-others g c = synced_elsewhere (g.C.Calls.log c.args.calls.now) (g.C.Calls.log c.sync_whole.new.calls) c.args._path.now _ _ c.requires.at c.in-Ok.ensures.done
