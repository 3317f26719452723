use Rattle.std.proofs.Common.{◌*◌, ◌/◌, refl, arith, length-take}
use Rattle.udfs_index.proofs.FrontLemmas.{in_told, records_given}
use Rattle.udfs_index.proofs.giving.give_records.Goals as goal

pub returns-clause-value : goal.returns-clause-value
returns-clause-value g c =
    let long = length-take (c.min-most.result * 2048) c.args.buf.now in
    let most = c.in_ok-count.ensures.bound in
    let same = c.read_at.auto.buf in
    in_told (g.S.Stored.content c.args.image.now) _ _ (λ all read. records_given all c.read_at.new.buf _ _ c.spread.new.buf _ c.args.found.block c.args.found.left (c.in_ok-count.count / 2048) c.in_ok-count.count (c.in_ok-count.count / 2048 * 2052) (c.args.found.block * 2048)
    (omega (arith, long, most, same)) (omega arith) most (omega arith) read refl c.spread.ensures (omega arith)) c.in_ok-count.ensures.value
