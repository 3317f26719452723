use Rattle.std.proofs.Common.{subst, ◌∙◌, ap, length}
use Rattle.udfs_lattice.specs.Volumes.{first_known}
use Rattle.udfs_volume.specs.Seen.{Sees}
use Rattle.udfs_space.specs.Sparing.{copies, place_of}
use Rattle.udfs_space.proofs.Tables.{spared-holes, spared-read}
use Rattle.udfs_space.proofs.spans.spared.Goals as goal

pub returns-in_default-clause-value : goal.returns-in_default-clause-value
returns-in_default-clause-value g c told = spared-holes (g.B.BlockStore.states c.args.blocks.now) c.args.last c.args.map.now.packet c.args.map.now.size c.args.map.now.tables.items c.in_ok-holes.field-0.items
    (rw c.in_default.is at (c.in_ok-bytes.ensures.holes told)) (c.in_ok-holes.ensures told)

pub returns-clause-value : goal.returns-clause-value
returns-clause-value g c told =
    let holes = rw c.in-Some.is at (c.in_ok-bytes.ensures.holes told) in
    let value = rw c.in-Some.is at (c.in_ok-bytes.ensures.value told) in
    let size = rw c.in-Some.is at c.in_ok-bytes.ensures.size in
    subst (λ a. Sees (λ packets. packets.items) c.in_ok-spared_by.field-0 a)
    (spared-read (g.B.BlockStore.states c.args.blocks.now) c.args.last c.args.map.now.packet c.args.map.now.size c.args.map.now.tables.items c.deref-2.result.now c.first_place-place.result
    holes (c.deref-2.ensures.value ∙ value) (ap length c.deref-2.ensures.value ∙ size)
    (c.first_place-place.ensures told ∙ ap (λ ts. place_of (first_known (g.B.BlockStore.states c.args.blocks.now) (copies ts 0))) c.deref.ensures.value))
    c.in_ok-spared_by.ensures.value
