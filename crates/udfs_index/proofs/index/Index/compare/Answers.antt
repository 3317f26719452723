use Rattle.std.proofs.Common.{rules}
use Rattle.udfs_index.proofs.IndexLemmas.{took_again, took_other}
use Rattle.udfs_index.proofs.index.Index.compare.Goals as goal

pub returns-then-eq-clause-ok : goal.returns-then-eq-clause-ok
returns-then-eq-clause-ok g c t h = took_again c.args.block c.args.place c.in-Ok.there c.args.bytes.now c.requires.known c.in-Ok.ensures (search rules) h

pub returns-in-Ok-dispute-clause-ok : goal.returns-in-Ok-dispute-clause-ok
returns-in-Ok-dispute-clause-ok g c t h = took_other c.args.block c.args.place c.in-Ok.there c.args.bytes.now c.requires.known c.in-Ok.ensures (search rules) c.in-Ok-dispute.ensures.ok h
