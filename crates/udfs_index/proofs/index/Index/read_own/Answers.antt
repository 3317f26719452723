use Rattle.std.proofs.Common.{rules}
use Rattle.udfs_index.proofs.RecordedLemmas.{read_whole}
use Rattle.udfs_index.proofs.index.Index.read_own.Goals as goal

pub returns-in-Ok-true-clause-bytes : goal.returns-in-Ok-true-clause-bytes
returns-in-Ok-true-clause-bytes g c = read_whole (g.S.Stored.content c.args.stored.now) c.args.at c.fill.new.buf (search rules) (c.in-Ok-true.ensures.whole c.in-Ok-true.field-0-test)
