use Rattle.std.proofs.Common.{◌≡◌, sym, ◌∙◌, ap, subst}
use Rattle.udfs_lattice.proofs.StoreResults.{retold}
use Rattle.udfs_volume.specs.Answers.{found}
use Rattle.udfs_volume.specs.Seen.{Sees}
use Rattle.udfs_volume.specs.Sequence.{anchor, reserve_sequence_by, sequence_at}
use Rattle.udfs_volume.specs.Sequences.{sequence_now}
use Rattle.udfs_volume.proofs.Walking.{reserve-found, reserve-holes, reserve_faulty}
use Rattle.udfs_volume.proofs.sequences.reserve_sequence_in.Goals as goal

pub returns-in-Got-clause-value : goal.returns-in-Got-clause-value
returns-in-Got-clause-value g c =
    let t = g.B.BlockStore.states c.args.blocks.now in
    let profile = c.args.profile in
    let last = c.args.last in
    retold g.B.BlockStore.tells c.sequence_at.result (λ seen. Sees sequence_now seen (sequence_at profile t last c.exchanged.result)) (λ seen. Sees sequence_now seen (reserve_sequence_by profile t last))
    (λ told seen sees.
    let is : anchor t last ≡ found c.in-Got.extents = subst (λ s. Sees (λ extents. extents) s (anchor t last)) c.in-Got.is (c.in_ok-extents.ensures.value told) in
    subst (Sees sequence_now seen) (ap (sequence_at profile t last) c.exchanged.ensures ∙ sym (reserve-found profile t last c.in-Got.extents is)) sees)
    c.sequence_at.ensures.value

pub returns-in-Holes-clause-value : goal.returns-in-Holes-clause-value
returns-in-Holes-clause-value g c told =
    let t = g.B.BlockStore.states c.args.blocks.now in
    reserve-holes c.args.profile t c.args.last c.in-Holes.holes.items (subst (λ s. Sees (λ extents. extents) s (anchor t c.args.last)) c.in-Holes.is (c.in_ok-extents.ensures.value told))

pub returns-in-Fault-clause-value : goal.returns-in-Fault-clause-value
returns-in-Fault-clause-value g c told =
    let t = g.B.BlockStore.states c.args.blocks.now in
    reserve_faulty c.args.profile t c.args.last c.in-Fault.fault (subst (λ s. Sees (λ extents. extents) s (anchor t c.args.last)) c.in-Fault.is (c.in_ok-extents.ensures.value told))
