use Rattle.std.proofs.Common.{◌-◌, arith}
use Rattle.udfs_index.proofs.FrontLemmas.{bytes_told, for_told, number_given}
use Rattle.udfs_index.proofs.giving.give_behind.Goals as goal

pub returns-then-skip-lt4-clause-value : goal.returns-then-skip-lt4-clause-value
returns-then-skip-lt4-clause-value g c =
    let few = c.give_number.ensures.few in
    let low = c.if-skip-lt4.true in
    for_told (g.S.Stored.content c.args.image.now) _ (λ all. number_given all _ c.args.found.block c.args.found.left c.args.skip _ c.requires.some (omega (arith, few, low)) c.give_number.ensures.value)

pub returns-clause-value : goal.returns-clause-value
returns-clause-value g c =
    let high = c.if-skip-lt4.false in
    bytes_told (g.S.Stored.content c.args.image.now) c.give_bytes.result _ c.args.found.block c.args.found.left c.args.skip (c.args.skip - 4) c.requires.some (omega (arith, high)) (omega (arith, high, c.requires.skip)) c.give_bytes.ensures.few c.give_bytes.ensures.value
