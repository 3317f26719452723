use Rattle.udfs_host_fs.proofs.Going.{content_goes, each}
use Rattle.udfs_host_fs.proofs.replacing.replace.Goals as goal

pub returns-in-Ok-clause-any_moment : goal.returns-in-Ok-clause-any_moment
returns-in-Ok-clause-any_moment g c tells = content_goes _ _ _ c.args.path.now (g.C.Content.bytes c.args.content.now) _ _ (c.replace_by_job.ensures.any_moment tells)

pub returns-in-Err-clause-any_moment : goal.returns-in-Err-clause-any_moment
returns-in-Err-clause-any_moment g c tells = content_goes _ _ _ c.args.path.now (g.C.Content.bytes c.args.content.now) _ _ (c.replace_by_job.ensures.any_moment tells)

pub returns-in-Ok-clause-each : goal.returns-in-Ok-clause-each
returns-in-Ok-clause-each g c tells = each _ _ _ c.args.path.now (g.C.Content.bytes c.args.content.now) g.met.F.Files.only_now _ _ (returns-in-Ok-clause-any_moment g c tells)

pub returns-in-Err-clause-each : goal.returns-in-Err-clause-each
returns-in-Err-clause-each g c tells = each _ _ _ c.args.path.now (g.C.Content.bytes c.args.content.now) g.met.F.Files.only_now _ _ (returns-in-Err-clause-any_moment g c tells)
