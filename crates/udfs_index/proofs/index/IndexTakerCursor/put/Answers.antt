use Rattle.std.proofs.Common.{sym, ◌∙◌}
use Rattle.udfs_lattice.specs.declared.facts.Fact.TheVariants.{Known}
use Rattle.udfs_index.proofs.IndexLemmas.{took_more}
use Rattle.udfs_index.proofs.index.IndexTakerCursor.put.Goals as goal

pub returns-in-Conflict-clause-ok : goal.returns-in-Conflict-clause-ok
returns-in-Conflict-clause-ok g c t h = took_more c.args.block (Known c.args.bytes.now) (sym c.slot.ensures ∙ c.in-Conflict.is) h

pub returns-in-Ok-clause-ok : goal.returns-in-Ok-clause-ok
returns-in-Ok-clause-ok g c t h = c.in-Ok.ensures.ok t c.args.bytes.now c.requires.at h
