use Rattle.std.proofs.Common.{◌∙◌, arith, refl, rules}
use Rattle.udfs_reading.proofs.GainLemmas.{gains_as, gains_none, gains_then}
use Rattle.udfs_reading.proofs.PacketSteps.{blocks_none, blocks_more, blocks_all}
use Rattle.udfs_index.proofs.HeadLemmas.{size_split, still_taken}
use Rattle.udfs_index.proofs.by_heads.take_blocks.Goals as goal

pub loop-place-init : goal.loop-place-init
loop-place-init g c = record { blocks = gains_none (λ t. blocks_none _ _ _ _ _ c.requires.masks.0 (search rules) (search rules)) (λ t h. h); within = c.requires.within; same = refl }

pub take_place-requires : goal.take_place-requires
take_place-requires g c κs =
    let packet = c.requires.packet in
    let place = c.loop-place-test.true in
    let split = size_split c.loop-place.known in
    let within = c.loop-place.invariant.within in
    ((refl, tt), (omega (arith, packet, place), (still_taken c.loop-place.invariant.same c.requires.taken, (omega (arith, split, within), c.requires.size))))

pub loop-place-preserved : goal.loop-place-preserved
loop-place-preserved g c =
    let split = size_split c.loop-place.known in
    let within = c.loop-place.invariant.within in
    let next = c.in-Ok.ensures.next in
    record {
      blocks = gains_then (λ s t u. blocks_more (search rules)) c.loop-place.invariant.blocks c.in-Ok.ensures.ok;
      within = omega (arith, split, within, next);
      same = c.in-Ok.ensures.input ∙ c.loop-place.invariant.same;
    }

pub returns-clause-ok : goal.returns-clause-ok
returns-clause-ok g c = gains_as (λ before after. blocks_all (search rules)) c.loop-place.invariant.blocks
