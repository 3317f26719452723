use Rattle.std.proofs.Common.{ℕ, ◌+◌, ◌*◌, refl, subst, sym}
use Rattle.udfs_reading.specs.Places.{HasBlockAt}
use Rattle.udfs_index.specs.Index.{contents_of, input_by}
use Rattle.udfs_index.proofs.RecordedLemmas.{block_of, has_read, takes_bytes}
use Rattle.udfs_index.proofs.index.Index.put_own.Goals as goal

pub put-requires-clause-at : goal.put-requires-clause-at
put-requires-clause-at g c =
    let input = input_by (contents_of g.S.Stored.content c.args.self.now.inputs.items) c.args.self.now.begun in
    subst (λ (k : ℕ). HasBlockAt input k c.args.bytes.now) (sym c.block_at.ensures)
    (has_read input (g.S.Stored.content c.args.stored.now) (20 + 2052 * c.args.number) c.args.bytes.now c.requires.is c.requires.read)

pub returns-in-Ok-clause-next : goal.returns-in-Ok-clause-next
returns-in-Ok-clause-next g c =
    takes_bytes (g.S.Stored.content c.args.stored.now) c.args.number (20 + 2052 * c.args.number) c.args.block c.args.bytes.now refl c.requires.block c.requires.at
    (block_of c.args.bytes.now c.told-bytes c.fits-bytes) c.requires.read c.in-Ok.ensures.ok
