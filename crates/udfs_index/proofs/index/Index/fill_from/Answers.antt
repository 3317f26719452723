use Rattle.std.proofs.Common.{List, rules, subst}
use Rattle.std.specs.Borrow.{Bor}
use Rattle.udfs_index.specs.Index.{IsFrontAt, contents_of}
use Rattle.udfs_index.proofs.IndexLemmas.{looked}
use Rattle.udfs_index.proofs.index.Index.fill_from.Goals as goal

pub returns-in-Ok-clause-there : goal.returns-in-Ok-clause-there
returns-in-Ok-clause-there g c =
    looked (contents_of g.S.Stored.content c.args.self.now.inputs.items) c.args.place c.read_from.new.buf (search rules)
    (subst (λ (l : List (Bor _)). IsFrontAt (contents_of g.S.Stored.content l) c.args.place c.read_from.new.buf) c.deref.ensures.value c.in-Ok.ensures.read)
