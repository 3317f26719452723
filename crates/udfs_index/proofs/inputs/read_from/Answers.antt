use Rattle.std.proofs.Common.{◌/◌, length, refl, rules}
use Rattle.std.proofs.lemmas.Option.{slice_get_read}
use Rattle.udfs_index.proofs.IndexLemmas.{read_at_place, not_held}
use Rattle.udfs_index.proofs.inputs.read_from.Goals as goal

pub returns-in-Ok-true-clause-read : goal.returns-in-Ok-true-clause-read
returns-in-Ok-true-clause-read g c =
    let found = c.in-Some.ensures.lookup in
    let s = c.in-Some.stored.now in
    read_at_place g.S.Stored.content c.args.inputs.now c.args.place s c.fill.new.buf
    (slice_get_read c.args.inputs.now _ (c.args.place / 17592186044416) s refl found.3.0 found.1)
    (search rules)

pub returns-in-Ok-false-clause-reads : goal.returns-in-Ok-false-clause-reads
returns-in-Ok-false-clause-reads g c wholes told never some held =
    let found = c.in-Some.ensures.lookup in
    let s = c.in-Some.stored.now in
    not_held g.S.Stored.content c.args.inputs.now wholes c.args.place (length c.args.buf.now) s
    (slice_get_read c.args.inputs.now _ (c.args.place / 17592186044416) s refl found.3.0 found.1)
    told (search rules) held
