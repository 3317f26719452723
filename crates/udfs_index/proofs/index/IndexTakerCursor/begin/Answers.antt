use Rattle.std.proofs.Common.{rules}
use Rattle.udfs_index.proofs.IndexLemmas.{took_pushed}
use Rattle.udfs_index.proofs.index.IndexTakerCursor.begin.Goals as goal

pub returns-then-is_ok-2-clause-same : goal.returns-then-is_ok-2-clause-same
returns-then-is_ok-2-clause-same g c t h = took_pushed g.S.Stored.content c.args.self.now.inputs.items c.push-then-is_ok.new.self.items c.place-at.result.0 (search rules) h
