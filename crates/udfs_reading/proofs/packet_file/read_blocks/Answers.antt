use Rattle.std.proofs.Common.{rules, refl, ◌∙◌}
use Rattle.std.proofs.lemmas.Result.{err_from_is_err_and}
use Rattle.udfs_reading.proofs.GainLemmas.{gained, gains_as, gains_none, gains_then}
use Rattle.udfs_reading.proofs.PacketSteps.{blocks_none, blocks_more, blocks_all, ends_place}
use Rattle.udfs_reading.proofs.packet_file.read_blocks.Goals as goal

pub loop-place-init : goal.loop-place-init
loop-place-init g c = record { blocks = gains_none (λ t. blocks_none _ _ _ _ _ c.requires.masks.0 (search rules) (search rules)) (λ t h. h); at = c.requires.at; kept = refl }

pub loop-place-preserved : goal.loop-place-preserved
loop-place-preserved g c =
    record {
      blocks = gains_then (λ s t u. blocks_more (search rules)) c.loop-place.invariant.blocks c.in_ok-join_place.ensures.ok;
      at = c.in_ok-join_place.ensures.at;
      kept = c.in_ok-join_place.ensures.count ∙ c.loop-place.invariant.kept;
    }

pub returns-in_err-join_place-clause-err : goal.returns-in_err-join_place-clause-err
returns-in_err-join_place-clause-err g c =
    let p = err_from_is_err_and c.from_residual.result c.from_residual.ensures.1 in
    rw (p.1, p.2) (λ count done next at. ends_place count done c.args.packet next (search rules) (search rules) c.requires.masks at (gained c.loop-place.invariant.blocks) c.loop-place.invariant.kept c.in_err-join_place.ensures.err)

pub returns-clause-ok : goal.returns-clause-ok
returns-clause-ok g c = gains_as (λ before after. blocks_all (search rules)) c.loop-place.invariant.blocks

pub join_place-requires-clause-at : goal.join_place-requires-clause-at
join_place-requires-clause-at g c = c.loop-place.invariant.at
