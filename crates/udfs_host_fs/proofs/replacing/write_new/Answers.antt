use Rattle.std.proofs.Common.{sym, ◌∙◌}
use Rattle.udfs_host_fs.proofs.Going.{wrote_new}
use Rattle.udfs_host_fs.proofs.replacing.write_new.Goals as goal

pub returns-in-Ok-sync-clause-holds : goal.returns-in-Ok-sync-clause-holds
returns-in-Ok-sync-clause-holds g c tells =
    let told = g.met.F.Files.output_told tells c.in-Ok-fill_by.output in
    (told.0, wrote_new (g.J.Job.wrote c.args.job.now) _ _ told.0 (c.in-Ok.ensures.empty tells) told.1 c.in-Ok-fill_by.ensures.wrote, c.in-Ok-sync.ensures.holds told.0 tells (λ none. c.in-Ok.ensures.number tells (sym c.in-Ok-fill_by.ensures.number ∙ none)) told.1)

pub returns-in-Ok-sync-clause-durable : goal.returns-in-Ok-sync-clause-durable
returns-in-Ok-sync-clause-durable g c tells left kept =
    let told = g.met.F.Files.output_told tells c.in-Ok-fill_by.output in
    (told.0, wrote_new (g.J.Job.wrote c.args.job.now) _ _ told.0 (c.in-Ok.ensures.empty tells) told.1 c.in-Ok-fill_by.ensures.wrote, c.in-Ok-sync.ensures.durable told.0 left tells (λ none. c.in-Ok.ensures.number tells (sym c.in-Ok-fill_by.ensures.number ∙ none)) told.1 kept)
