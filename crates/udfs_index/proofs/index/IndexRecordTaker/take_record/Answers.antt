use Rattle.std.proofs.Common.{◌∙◌}
use Rattle.udfs_index.specs.Index.{contents_of, input_by}
use Rattle.udfs_index.proofs.RecordedLemmas.{taken_after, takes_place}
use Rattle.udfs_index.proofs.index.IndexRecordTaker.take_record.Goals as goal

pub returns-in-Ok-clause-next : goal.returns-in-Ok-clause-next
returns-in-Ok-clause-next g c =
    takes_place (input_by (contents_of g.S.Stored.content c.args.self.now.inputs.items) c.args.self.now.begun) (g.S.Stored.content c.args.stored.now) c.args.number c.block_at-at.result c.args.block c.block_at-at.ensures c.requires.block c.requires.at c.requires.is
    c.in-Ok.ensures.ok

pub returns-in-Ok-put_own : goal.returns-in-Ok-put_own
returns-in-Ok-put_own g c =
    record {
      next = λ done count h is less. taken_after c.in-Ok-read_own.ensures.same (c.in-Ok-put_own.ensures.next done count h is less);
      input = c.in-Ok-put_own.ensures.input ∙ c.in-Ok-read_own.ensures.input;
    }
