use Rattle.udfs_index.proofs.IndexLemmas.{took_kept}
use Rattle.udfs_index.proofs.index.Index.keep.Goals as goal

pub returns-in-Ok-clause-ok : goal.returns-in-Ok-clause-ok
returns-in-Ok-clause-ok g c t bytes has h = took_kept g.S.Stored.content c.args.self.now.inputs.items c.args.self.now.begun c.args.block c.args.at c.in-Some.place bytes c.requires.unknown c.in-Ok.ensures.ok c.in-Some.ensures has h
