use Rattle.std.proofs.Common.{sym, ◌∙◌}
use Rattle.udfs_lattice.specs.declared.facts.Fact.TheVariants.{Known}
use Rattle.udfs_index.specs.Index.{contents_of, input_by}
use Rattle.udfs_index.proofs.IndexLemmas.{took_more}
use Rattle.udfs_index.proofs.PlacedLemmas.{block_at, block_stands, gains_after, takes_placed}
use Rattle.udfs_index.proofs.index.IndexPlaceTaker.take_placed.Goals as goal

pub returns-in-Ok-clause-ok : goal.returns-in-Ok-clause-ok
returns-in-Ok-clause-ok g c =
    let content = g.S.Stored.content c.args.stored.now in
    let input = input_by (contents_of g.S.Stored.content c.args.self.now.inputs.items) c.args.self.now.begun in
    let b = block_at content c.args.at c.requires.whole in
    takes_placed content c.args.at c.args.block b (λ t h. c.in-Ok.ensures.ok t b.bytes (block_stands input content c.args.at b c.requires.is) h)

pub returns-in-Ok-put_read-clause-ok : goal.returns-in-Ok-put_read-clause-ok
returns-in-Ok-put_read-clause-ok g c = gains_after c.in-Ok-read_own.ensures.same c.in-Ok-put_read.ensures.ok

pub returns-in-Conflict-clause-ok : goal.returns-in-Conflict-clause-ok
returns-in-Conflict-clause-ok g c =
    let content = g.S.Stored.content c.args.stored.now in
    let b = block_at content c.args.at c.requires.whole in
    takes_placed content c.args.at c.args.block b (λ t h. took_more c.args.block (Known b.bytes) (sym c.slot.ensures ∙ c.in-Conflict.is) h)
